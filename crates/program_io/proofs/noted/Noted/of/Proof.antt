-- `of` returns a value without bytes, whose ghost `value` is read off the argument.
use Rattle.std.proofs.Common.{◌≡◌, List, [], ◌∷◌, ◌++◌, refl}
use Rattle.std.proofs.raw_atomic.Walks.{leaves, proved}
use mir.Syntax.{a_type, dcons, dnil, named}
use mir.Val.{Val, vptr, vstruct, vcons, vnil}
use mir.MapTy.{inst_fn}
use base.Logic.{SProp, emp}
use base.Fml.{Fml}
use prog.Wp.{WpFn}
use contract.Running.{tables}
use contract.Monad.{fact, fact_i}
use types.Logic.{sem}
use types.Kit.{‵, raw, ◌⊛◌, ◌$◌, ◌∵◌, !, qed, by, keep, use0, split, fjoin}
use types.Run.{no_more, and_then, returns, enter}
use types.ByLocal.{alloc_all, pass_all, free_all, look_at, get, sets}
use types.Part.{agg}
use denote.Exit.{yes}
use denote.RattleType.{RattleType, owns}
use denote.Signature.{types_at, plain}
use denote.Steps.{nothing}
use denote.Param.{param, bounded}
use denote.Builtin.{RefOf}
use denote.Ref.{shr_vals, shr_Tells}
use denote.Shadow.{makes_shadow}
use denote.Triple.Entry.{alive}
use denote.Triple.Walked.{Stays, stay_dropped, walk_of, Goes-dropped}
use Rattle.program_io.specs.contracts.noted.Noted as Noted
use Rattle.program_io.specs.contracts.noted.Noted.of.{ended, clauses}
use Rattle.program_io.specs.contracts.noted.Noted.of.Key.{name as #self}
use Rattle.program_io.proofs.noted.Noted.of.Statement.{statement}
use Rattle.program_io.proofs.noted.Noted.of.Code as code

-- the machine representation of a noted value
abbrev token : Val
token = vstruct (vcons (vstruct vnil) vnil)

pub of_spec : {M : Type 1} → statement M
of_spec 𝓤 𝓛 𝓜 𝓡 wired T X Y LT LX LY g d _ =
    let H = 𝓛.H in let 𝓣 = tables 𝓤 H 𝓜 𝓡 𝓡.env in let V : RattleType = param 0 T in let R : RattleType = param 1 X in
    let En = ended T X Y g d in
    let inst = bounded (a_type ∷ a_type ∷ a_type ∷ []) (T, (X, (Y, tt))) (dcons d dnil) in
    let fn = inst_fn inst code.function in let c = clauses T X Y g d 𝓛 𝓜.mem 𝓡.returns in
    let arg = RefOf (0 ∷ []) tt (plain (λ _. R)) (λ _. tt) in
    let hs : Stays En.signature.params En.kept = (stay_dropped arg yes, tt) in
    proved 𝓛 En hs c 𝓜 𝓡 (Goes-dropped 𝓛 4 arg yes (λ κs x f. refl), tt) (#self inst) fn
    (code.unfolded 𝓤 H 𝓜 𝓡 wired (T, (X, (Y, tt))) d)
    (λ κs. (shr_vals, tt)) (λ κs. (shr_Tells (named 0) κs.0 R, tt)) (λ κs qs bounds a gh are.
    let p : Val = vptr a.0.ref_ptr.0 a.0.ref_ptr.1 in let value : V.Denot = g.value a.0.now in let r : (Noted.the_row
    V).Denot = record { marker = record {}; value = value } in let F : Fml = (Noted.the_row V).own_val r (token ∷ []) in
    let y : (walk_of 𝓛 En hs c).Ghost = ((κs, qs, bounds, a, (p ∷ [], tt)), gh) in let Post : Val
    → SProp 𝓤 = (walk_of 𝓛 En hs c).post y in
    qed 𝓛 ((raw (alive 𝓛 En.signature κs qs) ⊛ ‵ (owns (types_at En.signature.params κs) a y.0.4))
    ∷ raw ((c κs a).requires gh) ∷ []) ∵ split ! $ keep ! (0 ∷ []) $
    enter ! 𝓣.C 𝓣.Λ fn (p ∷ []) Post $ alloc_all ! (λ l. pass_all ! refl ((tt, tt), tt) $
    sets ! (agg ! (no_more !)) refl (tt, tt) $ sets ! (agg ! (and_then ! (get ! refl) (no_more !))) refl (tt, (tt, tt))
    $
    use0 𝓛 (raw (fact 𝓤 (value ≡ value))) (fact_i 𝓤 (value ≡ value) (emp 𝓤) refl) $
    use0 𝓛 (‵ F) (makes_shadow 𝓛 F ((λ vss. (tt, ((λ uss. (tt, tt)), tt))), tt)
    (((vstruct vnil ∷ [], tt), (refl, ((tt, (refl, tt)), tt))), tt)) $ nothing ! $ nothing ! $ fjoin ! $
    returns ! (look_at ! 0 refl) $ free_all ! refl $ keep ! (3 ∷ 0 ∷ 1 ∷ 2 ∷ []) $
    by ! (leaves 𝓛 En hs c y token r (tt, tt) (tt, tt))))
