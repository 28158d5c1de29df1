-- What a log took, for one happening, for none, and for two parts of the trace.
use Rattle.supervisor.proofs.EdgeWords.{◌≡◌, refl, sym, ◌∙◌, ap, subst, Bool, true, false, List, [], ◌∷◌, ◌++◌, reverse}
use Rattle.supervisor.proofs.EdgeWords.{append-nil, append_assoc, inl, inr, Result, Ok, Err, OnOk, OnErr, is_err}
use Rattle.supervisor.proofs.EdgeWords.{false≢true, and_parts, reverse-append, list_all-append, Event, is_in_range}
use Rattle.supervisor.proofs.EdgeWords.{is_short, are_short, LogFault, LogState, AcceptsHappening, Stays, Logs, Takes}
use Rattle.supervisor.proofs.EdgeWords.{Took}

-- if nothing came, the log is unchanged
pub Took-none : (log : LogState) (past : List Event) → Took log log past past
Took-none log past = record {
  same = refl;
  came = [];
  grown = refl;
  log = λ before taken. record {
    took = [];
    missed = [];
    parts = refl;
    told = subst log.taken (sym (append-nil before)) taken;
    whole = λ h. refl;
    ended = inl refl;
    nothing = λ h. refl;
    stays = λ h. h;
  };
}

pub Logs-none : (log : LogState) (past : List Event) → Logs log log past past
Logs-none log past short = Took-none log past

-- the log took the happening
Took-one : (old new : LogState) (past : List Event) (happening : Event) → new.noted ≡ old.noted → old.failed ≡ false
    → AcceptsHappening old new happening → Took old new past (happening ∷ past)
Took-one old new past happening same open_log gains = record {
  same = same;
  came = happening ∷ [];
  grown = refl;
  log = λ before taken. record {
    took = happening ∷ [];
    missed = [];
    parts = refl;
    told = gains before taken;
    whole = λ h. refl;
    ended = inl refl;
    nothing = λ h. absurd (false≢true (sym open_log ∙ h));
    stays = λ h. absurd (false≢true (sym open_log ∙ h));
  };
}

-- the log did not take the happening: it has failed, or fails now
Took-missed : (old new : LogState) (past : List Event) (happening : Event) → new.noted ≡ old.noted → new.failed ≡ true
    → Stays old new → Took old new past (happening ∷ past)
Took-missed old new past happening same failed stays = record {
  same = same;
  came = happening ∷ [];
  grown = refl;
  log = λ before taken. record {
    took = [];
    missed = happening ∷ [];
    parts = refl;
    told = subst new.taken (sym (append-nil before)) (stays before taken);
    whole = λ h. absurd (false≢true (sym h ∙ failed));
    ended = inr refl;
    nothing = λ h. refl;
    stays = λ h. failed;
  };
}

-- a log that has failed is given nothing and is unchanged
pub Logs-same : (log : LogState) (past : List Event) (happening : Event) → log.failed ≡ true
    → Logs log log past (happening ∷ past)
Logs-same log past happening failed short = Took-missed log log past happening refl failed (λ before taken. taken)

-- a log that had not failed was given the happening
pub Logs-handed : (old new : LogState) (past : List Event) (happening : Event) (result : Result (Unit {0}) LogFault)
    → new.noted ≡ old.noted → old.failed ≡ false → (is_short happening ≡ true → is_in_range happening ≡ true)
    → new.failed ≡ is_err result → OnOk result (is_in_range happening ≡ true → AcceptsHappening old new happening)
    → OnErr result (is_in_range happening ≡ true → Stays old new) → Logs old new past (happening ∷ past)
Logs-handed old new past happening (Ok tt) same works ranged flag gains stays short = Took-one old new past happening
    same works (gains (ranged (and_parts (is_short happening) (are_short past) short).0))
Logs-handed old new past happening (Err fault) same works ranged flag gains stays short = Took-missed old new past
    happening same flag (stays (ranged (and_parts (is_short happening) (are_short past) short).0))

none_before : (xs ys : List Event) → xs ++ ys ≡ [] → xs ≡ []
none_before [] ys none = refl
none_before (x ∷ xs) ys none = cc

-- two parts: `ys` came after `xs`, and more after them
pub takes-then : (old mid new : LogState) (before xs ys more : List Event) (first : Takes old mid before xs [])
    → Takes mid new (before ++ reverse first.took) ys more → Takes old new before (ys ++ xs) more
takes-then old mid new before xs ys more first second = by mid.failed refl
  where
    by : (b : Bool) → mid.failed ≡ b → Takes old new before (ys ++ xs) more
    by true failed =
        let none : more ++ second.took ≡ [] = second.nothing failed in
        let no_more : more ≡ [] = none_before more second.took none in
        record {
          took = first.took;
          missed = ys ++ first.missed;
          parts = ap (λ l. ys ++ l) first.parts ∙ sym (append_assoc ys first.missed first.took);
          told = subst new.taken (ap (λ l. (before ++ reverse first.took) ++ reverse l) none ∙ append-nil
              (before ++ reverse first.took) ∙ ap (λ l. before ++ reverse (l ++ first.took)) (sym no_more)) second.told;
          whole = λ h. absurd (false≢true (sym h ∙ second.stays failed));
          ended = inr no_more;
          nothing = λ h. λ i. no_more i ++ first.nothing h i;
          stays = λ h. second.stays (first.stays h);
        }
    by false works =
        let none : first.missed ≡ [] = first.whole works in
        let all : xs ≡ first.took = first.parts ∙ ap (λ l. l ++ first.took) none in
        let joined : reverse first.took ++ reverse (more ++ second.took)
        ≡ reverse (more ++ (second.took ++ first.took)) =
        sym (reverse-append (more ++ second.took) first.took) ∙ ap reverse (append_assoc more second.took first.took) in
        record {
          took = second.took ++ first.took;
          missed = second.missed;
          parts = (λ i. second.parts i ++ all i) ∙ append_assoc second.missed second.took first.took;
          told = subst new.taken (append_assoc before (reverse first.took) (reverse (more ++ second.took))
              ∙ ap (λ l. before ++ l) joined) second.told;
          whole = second.whole;
          ended = second.ended;
          nothing = λ h. absurd (false≢true (sym works ∙ first.stays h));
          stays = λ h. absurd (false≢true (sym works ∙ first.stays h));
        }

pub Took-then : (old mid new : LogState) (past between now : List Event) → Took old mid past between
    → Took mid new between now → Took old new past now
Took-then old mid new past between now first second = record {
  same = second.same ∙ first.same;
  came = second.came ++ first.came;
  grown = second.grown ∙ ap (λ l. second.came ++ l) first.grown ∙ sym (append_assoc second.came first.came past);
  log = λ before taken.
      let one = first.log before taken in
      takes-then old mid new before first.came second.came [] one (second.log (before ++ reverse one.took) one.told);
}

-- the past has no other seconds
short_before : (came before now : List Event) → now ≡ came ++ before → are_short now ≡ true → are_short before ≡ true
short_before came before now is short = (and_parts (are_short came) (are_short before)
    (sym (list_all-append is_short came before) ∙ ap are_short (sym is) ∙ short)).1

pub Logs-then : (old mid new : LogState) (past between now : List Event) → Logs old mid past between
    → Logs mid new between now → Logs old new past now
Logs-then old mid new past between now first second short =
    let behind : Took mid new between now = second short in
    Took-then old mid new past between now (first (short_before behind.came between now behind.grown short)) behind
