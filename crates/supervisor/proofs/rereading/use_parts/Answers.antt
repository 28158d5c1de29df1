use Rattle.supervisor.proofs.Words.{rules, ◌≡◌, refl, sym, ◌∙◌, ap, ◌∷◌, List, subst, is_err, Bool, true, false, not}
use Rattle.supervisor.proofs.Words.{◌||◌, ◌==◌, inl, inr, length, arith, and_from, OnOk, Result, Ok, Err, false≢true}
use Rattle.supervisor.proofs.Words.{NewTable, Event, is_quiet, FitsExtendedTrace, ForAllFittedTraces, has_short_seconds}
use Rattle.supervisor.proofs.Words.{Logs}
use Rattle.supervisor.proofs.Words.{Grows-none, ExtendsLogFromCore-none, ExtendsLogFromCore-one}
use Rattle.std.specs.Prelude.{◌⊎◌}
use Rattle.init_words.specs.Parts.{texts_of}
use Rattle.inittab_text.specs.Parts.{are_readable, faults_of_parts, table_of_texts}
use Rattle.inittab_text.proofs.PartLemmas.{was_readable}
use Rattle.supervisor.proofs.Lasting.{adopt_lasts}
use Rattle.supervisor.proofs.rereading.use_parts.Goals as goal
use Rattle.supervisor.proofs.rereading.use_parts.Goals.{else-strict-via-then-strict+else-not-is_empty}
use Rattle.supervisor.proofs.rereading.use_parts.Goals.{else-strict-via-else-strict}

was_ok : {E : Type 0} (result : Result (Unit {0}) E) (P : Type 0) → is_err result ≡ false → OnOk result P → P
was_ok (Ok tt) P no_fault holds = holds
was_ok (Err why) P no_fault holds = cc

pub returns-clause-fits : goal.returns-clause-fits
returns-clause-fits g c taken =
    let works : is_err c.adopt.result ≡ false = search rules in
    let read : c.in-Ok.table ≡ table_of_texts (texts_of c.args.parts.now) = search rules in
    subst (λ table. ForAllFittedTraces c.args.core.now
    (λ goal past. FitsExtendedTrace c.args.core.now c.adopt.new.self goal past
    (NewTable table ∷ past))) read (was_ok c.adopt.result _ works c.adopt.ensures.fits)

pub returns-clause-lasts : goal.returns-clause-lasts
returns-clause-lasts g c taken =
    let works : is_err c.adopt.result ≡ false = search rules in
    adopt_lasts c.args.core.now c.adopt.new.self c.in-Ok.table (was_ok c.adopt.result _ works c.adopt.ensures.adopted)

-- init is not strict, or no line is faulty
either : (strict none : Bool) → (strict ≡ false) ⊎ (none ≡ true) → (not strict || none) ≡ true
either strict none holds = grind arith

pub returns-clause-taken : goal.returns-clause-taken
returns-clause-taken g c taken =
    let texts = texts_of c.args.parts.now in
    let readable : are_readable texts ≡ true = was_readable c.read_parts.result
    (c.in-Ok.table, c.in-Ok.faults) texts c.in-Ok.is c.read_parts.ensures.parts c.read_parts.ensures.too_long in
    let told : c.in-Ok.faults.items ≡ faults_of_parts texts = c.in-Ok.ensures.faults in
    let none : (length (faults_of_parts texts) == 0) ≡ (length c.in-Ok.faults.items == 0) =
    ap (λ faults. length faults == 0) (sym told) in
    and_from (are_readable texts) (not c.args.strict || length (faults_of_parts texts) == 0) readable
    (either c.args.strict (length (faults_of_parts texts) == 0) (elim c.else-strict.branch [
      | else-strict-via-then-strict+else-not-is_empty w ↦ inr (none ∙ search rules)
      | else-strict-via-else-strict w ↦ inl w.if-strict.false
    ]))

was_quiet : {E : Type 0} (quiet : Bool) (result : Result (Unit {0}) E) (why : E) → (quiet ≡ false → result ≡ Err why)
    → is_err result ≡ false → quiet ≡ true
was_quiet true result why busy works = refl
was_quiet false result why busy works = absurd (false≢true (sym works ∙ ap is_err (busy refl)))

pub returns-clause-quiet : goal.returns-clause-quiet
returns-clause-quiet g c taken =
    let works : is_err c.adopt.result ≡ false = search rules in
    was_quiet (is_quiet c.args.core.now.slots) c.adopt.result _ c.adopt.ensures.busy works

pub returns-clause-took : goal.returns-clause-took
returns-clause-took g c taken =
    let read : c.in-Ok-copy.copy ≡ table_of_texts (texts_of c.args.parts.now) = search rules in
    let old = g.L.Log.state c.args.edge.now.log in
    let new = g.L.Log.state c.write.new.self.log in
    subst (λ table. (past : List Event) → Logs old new past (NewTable table ∷ past)) read c.write.ensures.logs

pub returns-clause-grows : goal.returns-clause-grows
returns-clause-grows g c =
    let works : is_err c.adopt.result ≡ false = search rules in
    let lasts = adopt_lasts c.args.core.now c.adopt.new.self c.in-Ok.table
    (was_ok c.adopt.result _ works c.adopt.ensures.adopted) in
    ExtendsLogFromCore-one c.args.core.now c.adopt.new.self (g.L.Log.state c.args.edge.now.log)
    (g.L.Log.state c.write.new.self.log) lasts.short (c.write.ensures.grows refl)

pub returns-then-is_err-clause-grows : goal.returns-then-is_err-clause-grows
returns-then-is_err-clause-grows g c =
    let same : c.adopt.new.self ≡ c.args.core.now = search rules in
    let old = g.L.Log.state c.args.edge.now.log in
    ExtendsLogFromCore-one c.args.core.now c.adopt.new.self old old (λ short. ap has_short_seconds same ∙ short)
    (Grows-none old)

pub returns-in_default-copy-clause-grows : goal.returns-in_default-copy-clause-grows
returns-in_default-copy-clause-grows g c = ExtendsLogFromCore-none c.args.core.now (g.L.Log.state c.args.edge.now.log)
