use Rattle.initd_command.proofs.Words.{[], run_of}
use Rattle.host_calls.proofs.Record.{NewCallsSatisfy-map}
use Rattle.initd_command.proofs.Ran.{brief_written, made_traced, plain_written, some_known}
use Rattle.initd_command.proofs.run.make_over.Goals as goal

pub returns-then-options-clause-ended : goal.returns-then-options-clause-ended
returns-then-options-clause-ended g c =
    let (end, status, served, reported, made) = c.make_turns.ensures.ended in
    let taken = some_known (g.S.Write.contents c.args.files) [] _ c.requires.nothing c.new-log.ensures.nothing in (
      end,
      status,
      served,
      reported,
      λ bytes is table opens. NewCallsSatisfy-map _ _ _ _ (made table opens) (λ calls.
          made_traced _ _ (run_of c.args.options.now) table end
          (c.new.ensures.nothing taken) bytes calls c.requires.trace
          (brief_written _ bytes is c.args.options.now.brief c.if-options.true)),
    )

pub returns-clause-ended : goal.returns-clause-ended
returns-clause-ended g c =
    let (end, status, served, reported, made) = c.make_turns-2.ensures.ended in
    let taken = some_known (g.S.Write.contents c.args.files) [] _ c.requires.nothing c.new-log.ensures.nothing in (
      end,
      status,
      served,
      reported,
      λ bytes is table opens. NewCallsSatisfy-map _ _ _ _ (made table opens) (λ calls.
          made_traced _ _ (run_of c.args.options.now) table end taken bytes calls c.requires.trace
          (plain_written _ bytes is c.args.options.now.brief c.if-options.false)),
    )
