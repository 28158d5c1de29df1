-- Lemmas on plans: their fields, their names, and the faults that a step passes on.
use Rattle.rc_links.proofs.Words.{string_bytes, ◌≡◌, ℕ, zero, suc, ◌+◌, ◌<◌, List, [], ◌∷◌, ◌++◌, length, map, get_or}
use Rattle.rc_links.proofs.Words.{refl, sym, ap, ◌∙◌, subst, arith, append_assoc, inl, inr, AllByRecursion, Phase}
use Rattle.rc_links.proofs.Words.{Wrong, Round, IsAnyDeep, IsRound, IsTooDeep, FaultSatisfies, HasNoNumbering, IsCycle}
use Rattle.rc_links.proofs.Words.{ScriptText, PlannedText, AreLeast, IsCycleOf, IsPlan, IsProvided, IsRefused, IsShort}
use Rattle.rc_links.proofs.Words.{names_at, planned, planned_all, needs_of}
use Rattle.rc_links.specs.declared.needs.Phase.TheVariants as phase
use Rattle.rc_links.specs.declared.faults.PlanFault.{PlanFault}
use Rattle.rc_links.specs.declared.faults.PlanFault.TheVariants as fault

-- the name at a position
pub name_is : (scripts : List ScriptText) (position : ℕ) (s : ScriptText) → position < length scripts
    → s ≡ get_or scripts position s → get_or (map (λ t. t.name) scripts) position [] ≡ s.name
name_is [] position s within is = absurd (omega arith)
name_is (x ∷ scripts) zero s within is = ap (λ t. t.name) (sym is)
name_is (x ∷ scripts) (suc position) s within is = name_is scripts position s (omega arith) is

pub names-step : (scripts : List ScriptText) (position : ℕ) (rest : List ℕ) (names whole : List (List ℕ))
    (s : ScriptText) → position < length scripts → s ≡ get_or scripts position s
    → names ++ names_at scripts (position ∷ rest) ≡ whole → (names ++ s.name ∷ []) ++ names_at scripts rest ≡ whole
names-step scripts position rest names whole s within is same =
    let P : List ℕ → Type 0 = λ name. names ++ name ∷ names_at scripts rest ≡ whole in
    append_assoc names (s.name ∷ []) (names_at scripts rest) ∙ subst P (name_is scripts position s within is) same

-- one more script of a plan
pub planned-step : (plan whole : List PlannedText) (s : ScriptText) (scripts : List ScriptText) (start stop : ℕ)
    (starts stops : List ℕ) → plan ++ planned_all (s ∷ scripts) (start ∷ starts) (stop ∷ stops) ≡ whole
    → (plan ++ planned s start stop ∷ []) ++ planned_all scripts starts stops ≡ whole
planned-step plan whole s scripts start stop starts stops same =
    append_assoc plan (planned s start stop ∷ []) (planned_all scripts starts stops) ∙ same

pub short-push : (plan : List PlannedText) (s : PlannedText) → AllByRecursion IsShort plan → IsShort s
    → AllByRecursion IsShort (plan ++ s ∷ [])
short-push [] s all short = (short, tt)
short-push (t ∷ plan) s all short = (all.0, short-push plan s all.1 short)

-- a property of the fault that implies another one
pub FaultSatisfies-weaker : {A : Type 0} {P Q : Wrong → Type 0} (f : PlanFault A)
    → ((wrong : Wrong) → P wrong → Q wrong) → FaultSatisfies P f → FaultSatisfies Q f
FaultSatisfies-weaker (fault.DoubleProvide name) more said = more _ said
FaultSatisfies-weaker (fault.Missing name) more said = more _ said
FaultSatisfies-weaker (fault.Cycle names) more said = more _ said
FaultSatisfies-weaker fault.TooDeep more said = more _ said
FaultSatisfies-weaker fault.Memory more said = tt

-- a number that is too great is one of all numbers
pub any_deep : (starts stops : List ℕ) (position : ℕ) (wrong : Wrong)
    → IsTooDeep (get_or starts position 0) (get_or stops position 0) wrong → IsAnyDeep starts stops wrong
any_deep starts stops position wrong deep = elim deep.1 [
  | inl high ↦ (deep.0, inl (position, high))
  | inr high ↦ (deep.0, inr (position, high))
]

-- the fields of a plan
planned-by : {X : Type 0} (f : PlannedText → X) (h : ScriptText → X)
    → ((s : ScriptText) (a b : ℕ) → f (planned s a b) ≡ h s)
    → (scripts : List ScriptText) (starts stops : List ℕ) → length starts ≡ length scripts
    → length stops ≡ length scripts → map f (planned_all scripts starts stops) ≡ map h scripts
planned-by f h is [] starts stops first second = refl
planned-by f h is (s ∷ scripts) [] stops first second = absurd (omega arith)
planned-by f h is (s ∷ scripts) (a ∷ starts) [] first second = absurd (omega arith)
planned-by f h is (s ∷ scripts) (a ∷ starts) (b ∷ stops) first second =
    λ i. is s a b i ∷ planned-by f h is scripts starts stops (omega arith) (omega arith) i

start-planned : (scripts : List ScriptText) (starts stops : List ℕ) → length starts ≡ length scripts
    → length stops ≡ length scripts → map (λ s. s.start) (planned_all scripts starts stops) ≡ starts
start-planned [] [] stops first second = refl
start-planned [] (a ∷ starts) stops first second = absurd (omega arith)
start-planned (s ∷ scripts) [] stops first second = refl
start-planned (s ∷ scripts) (a ∷ starts) [] first second = absurd (omega arith)
start-planned (s ∷ scripts) (a ∷ starts) (b ∷ stops) first second =
    ap (λ numbers. a ∷ numbers) (start-planned scripts starts stops (omega arith) (omega arith))

stop-planned : (scripts : List ScriptText) (starts stops : List ℕ) → length starts ≡ length scripts
    → length stops ≡ length scripts → map (λ s. s.stop) (planned_all scripts starts stops) ≡ stops
stop-planned [] starts [] first second = refl
stop-planned [] starts (b ∷ stops) first second = absurd (omega arith)
stop-planned (s ∷ scripts) [] stops first second = absurd (omega arith)
stop-planned (s ∷ scripts) (a ∷ starts) [] first second = absurd (omega arith)
stop-planned (s ∷ scripts) (a ∷ starts) (b ∷ stops) first second =
    ap (λ numbers. b ∷ numbers) (stop-planned scripts starts stops (omega arith) (omega arith))

-- a plan that is complete
pub plan_made : (scripts : List ScriptText) (starts stops : List ℕ) (plan : List PlannedText) → IsProvided scripts
    → AreLeast phase.Start scripts starts → AreLeast phase.Stop scripts stops → plan ≡ planned_all scripts starts stops
    → AllByRecursion IsShort plan → IsPlan scripts plan
plan_made scripts starts stops plan provided first second is short = record {
  provided = provided;
  names = rw is (planned-by (λ s. s.name) (λ s. s.name) (λ _ _ _. refl) scripts starts stops first.size second.size);
  starts = rw is (planned-by (λ s. s.starts) (λ s. s.header.default_start)
      (λ _ _ _. refl) scripts starts stops first.size second.size);
  stops = rw is
      (planned-by (λ s. s.stops) (λ s. s.header.default_stop)
      (λ _ _ _. refl) scripts starts stops first.size second.size);
  least_starts = rw (is, start-planned scripts starts stops first.size second.size) first;
  least_stops = rw (is, stop-planned scripts starts stops first.size second.size) second;
  short = short;
}

-- a cycle, given by its names
pub round : (turn : Phase) (scripts : List ScriptText) (places : List ℕ) (wrong : Wrong)
    → IsCycle (needs_of turn scripts) places → HasNoNumbering (needs_of turn scripts)
    → wrong ≡ Round (names_at scripts places) → IsRound turn scripts wrong
round turn scripts places wrong cycle none is =
    (names_at scripts places, is, record { places = places; named = refl; cycle = cycle; none = none })

same_round : (x y : List (List ℕ)) → Round x ≡ Round y → x ≡ y
same_round x y e = cc

pub refused-start : {A : Type 0} (scripts : List ScriptText) (f : PlanFault A) → IsProvided scripts
    → FaultSatisfies (IsRound phase.Start scripts) f → IsRefused scripts f
refused-start scripts (fault.DoubleProvide name) provided is = absurd (let e = is.1 in cc)
refused-start scripts (fault.Missing name) provided is = absurd (let e = is.1 in cc)
refused-start scripts (fault.Cycle names) provided is =
    let P : List (List ℕ) → Type 0 = λ said. IsCycleOf phase.Start scripts said in
    (provided, inl (subst P (sym (same_round (map string_bytes names.items) is.0 is.1)) is.2))
refused-start scripts fault.TooDeep provided is = absurd (let e = is.1 in cc)
refused-start scripts fault.Memory provided is = tt

pub refused-stop : {A : Type 0} (scripts : List ScriptText) (starts : List ℕ) (f : PlanFault A) → IsProvided scripts
    → AreLeast phase.Start scripts starts → FaultSatisfies (IsRound phase.Stop scripts) f → IsRefused scripts f
refused-stop scripts starts (fault.DoubleProvide name) provided first is = absurd (let e = is.1 in cc)
refused-stop scripts starts (fault.Missing name) provided first is = absurd (let e = is.1 in cc)
refused-stop scripts starts (fault.Cycle names) provided first is =
    let P : List (List ℕ) → Type 0 = λ said. IsCycleOf phase.Stop scripts said in
    (provided, inr (starts, first, subst P (sym (same_round (map string_bytes names.items) is.0 is.1)) is.2))
refused-stop scripts starts fault.TooDeep provided first is = absurd (let e = is.1 in cc)
refused-stop scripts starts fault.Memory provided first is = tt

pub refused-deep : {A : Type 0} (scripts : List ScriptText) (starts stops : List ℕ) (f : PlanFault A)
    → IsProvided scripts → AreLeast phase.Start scripts starts → AreLeast phase.Stop scripts stops
    → FaultSatisfies (IsAnyDeep starts stops) f → IsRefused scripts f
refused-deep scripts starts stops (fault.DoubleProvide name) provided first second is = absurd (let e = is.0 in cc)
refused-deep scripts starts stops (fault.Missing name) provided first second is = absurd (let e = is.0 in cc)
refused-deep scripts starts stops (fault.Cycle names) provided first second is = absurd (let e = is.0 in cc)
refused-deep scripts starts stops fault.TooDeep provided first second is =
    (provided, starts, stops, first, second, is.1)
refused-deep scripts starts stops fault.Memory provided first second is = tt
