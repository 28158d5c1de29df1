use Rattle.simulator.proofs.Words.{Vec, ℕ, map, ◌∷◌, sym, ap, ◌∙◌, subst, FitsExtendedTrace, state_of, CoreState}
use Rattle.trace_events.specs.declared.happenings.Happening.TheVariants as happening
use Rattle.simulator.proofs.Foreign.{handed_then, kept_more, kept_push, more_texts, same_core, same_made}
use Rattle.simulator.proofs.handing.hand_core.Goals as goal

pub returns-in-Failed-clause-fits : goal.returns-in-Failed-clause-fits
returns-in-Failed-clause-fits g c goal past sound fits = c.not_handed.ensures.fits goal past sound fits c.args.how

pub carry-requires-clause-made : goal.carry-requires-clause-made
carry-requires-clause-made g c = same_made (λ (text : Vec ℕ g.row.A.Denot). text.items) c.args.made.now.items
    c.deref-2.result.now c.deref-2.ensures.value c.requires.made.are

pub returns-clause-state : goal.returns-clause-state
returns-clause-state g c =
    same_core c.args.how c.make_text.new.core c.go_on_as.new.core c.in_ok-taken.taken c.in_ok-taken.ensures.taken
    c.go_on_as.ensures
    ∙ c.in_ok-text.ensures.state ∙ handed_then c.args.how c.args.core.now c.in_default.not-Failed

pub returns-clause-fits : goal.returns-clause-fits
returns-clause-fits g c goal past sound fits =
    let same = same_core c.args.how c.make_text.new.core c.go_on_as.new.core c.in_ok-taken.taken
    c.in_ok-taken.ensures.taken c.go_on_as.ensures in
    subst (λ (core : CoreState). FitsExtendedTrace c.args.core.now core goal past (happening.Handed c.args.how ∷ past))
    (sym same) (c.in_ok-text.ensures.fits goal past sound fits c.args.how)

pub returns-clause-made : goal.returns-clause-made
returns-clause-made g c =
    let same = same_core c.args.how c.make_text.new.core c.go_on_as.new.core c.in_ok-taken.taken
    c.in_ok-taken.ensures.taken c.go_on_as.ensures in
    let next = ap (λ (core : CoreState). core.fields.generation) c.in_ok-text.ensures.state in
    more_texts (λ (text : Vec ℕ g.row.A.Denot). text.items) c.args.made.now.items c.push.new.self.items
    c.in_ok-text.text c.args.core.now.fields.generation c.go_on_as.new.core.fields.generation
    c.in_ok-push.ensures.items c.requires.made (state_of c.make_text.new.core, c.in_ok-text.ensures.says, next)
    (ap (λ (core : CoreState). core.fields.generation) same ∙ next)

pub returns-clause-kept : goal.returns-clause-kept
returns-clause-kept g c =
    let texts = λ (text : Vec ℕ g.row.A.Denot). text.items in
    kept_more c.args.how c.args.core.now (map texts c.args.made.now.items)
    (map texts c.push.new.self.items) c.in_ok-text.text.items c.in_default.not-Failed c.in_ok-text.ensures.text
    (kept_push texts c.args.made.now.items c.push.new.self.items c.in_ok-text.text c.in_ok-push.ensures.items)
