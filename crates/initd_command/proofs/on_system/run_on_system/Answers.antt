use Rattle.std.proofs.Common.{refl, ap, map, Some, None}
use Rattle.std.specs.Prelude.{string_bytes}
use Rattle.initd_command.proofs.OnSystem.{kills_kept, targets_kept}
use Rattle.initd_command.proofs.on_system.run_on_system.Goals as goal

pub returns-clause-targets : goal.returns-clause-targets
returns-clause-targets g c numbers = targets_kept c.run_words-status.new.hosts.calls c.run_words-status.new.hosts.asked
    c.asked-asked.ensures.own numbers

pub returns-clause-kills : goal.returns-clause-kills
returns-clause-kills g c grace opening numbers requests given =
    let (ending, status, ends, reported, asks) = c.run_words-status.ensures in
    kills_kept (g.T.Texts.text_at c.args.texts.now)
    (map string_bytes c.args.words.items) c.run_words-status.new.hosts ending
    (record {
      opened = None;
      calls = Some c.args.hosts.now.calls;
      trace = g.F.Traces.told c.args.traces.now;
      out = g.W.Write.contents c.args.out.now;
    })
    (record {
      opened = None;
      calls = Some c.run_words-status.new.hosts.calls;
      trace = g.F.Traces.told c.run_words-status.new.traces;
      out = g.W.Write.contents c.run_words-status.new.out;
    }) (ap Some c.requires) refl c.asked-asked.ensures.own asks grace opening numbers requests given
