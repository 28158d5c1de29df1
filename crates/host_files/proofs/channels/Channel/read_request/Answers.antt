use Rattle.std.proofs.Common.{rules, arith, ◌≡◌, ◌≤◌, ◌∙◌, ap, sym, length, drop, ◌-◌, [], List, ℕ}
use Rattle.std.proofs.lemmas.List.{length-drop}
use Rattle.host_files.specs.Channels.{ChannelState, HandsOverNothing, ReadsConsecutively, bytes_read}
use Rattle.host_files.proofs.Handing.{read_on, still_none}
use Rattle.host_files.proofs.channels.Channel.read_request.Goals as goal

pub returns-in_err-read_at-clause-kept : goal.returns-in_err-read_at-clause-kept
returns-in_err-read_at-clause-kept g c none =
    let is_rest = ap (λ (s : ChannelState). s.rest) c.self.view_is ∙ c.in_ok-has_request.ensures.rest in
    let short : length (drop c.self.inside.handed c.self.inside.request) ≡ 0 = ap length (is_rest ∙ none) in
    let was_long : length c.self.inside.request ≡ 384 = search rules in
    let is_long : length c.read_at.new.request ≡ 384 = c.read_at.ensures.size in
    let past : length c.read_at.new.request ≤ c.self.inside.handed =
    omega (arith, short, length-drop c.self.inside.handed c.self.inside.request, was_long, is_long) in
    still_none c.args.self.now c.self.inside.handed c.self.inside.request c.read_at.new.request
    (g.F.ChannelFile.told c.self.inside.file) (g.F.ChannelFile.told c.read_at.new.self) is_rest past
    (ap (λ (s : ChannelState). bytes_read s.told) c.self.view_is ∙ c.in_ok-has_request.ensures.unread)
    c.in_err-read_at.ensures.err none

pub invariant_of-self-2 : goal.invariant_of-self-2
invariant_of-self-2 g c =
    let long : length c.read_at.new.request ≡ 384 = c.read_at.ensures.size in
    read_on c.self.inside.fresh (g.F.ChannelFile.told c.self.inside.file) (g.F.ChannelFile.told c.read_at.new.self)
    c.self.inside.progress c.read_at.new.request c.in-Some.end c.self.invariant c.in_ok-read_at.ensures.ok long
    (search rules)
