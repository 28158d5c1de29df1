-- Bytes taken one by one complete the blocks of the whole list; and how the reader of requests handles a piece.
use Rattle.supervisor.proofs.EdgeWords.{◌≡◌, refl, sym, ◌∙◌, ap, subst, ℕ, ◌+◌, ◌*◌, ◌/◌, ◌<◌, ◌==◌, Bool, true, false}
use Rattle.supervisor.proofs.EdgeWords.{cond, List, [], ◌∷◌, ◌++◌, length, take, drop, append-nil, append_assoc}
use Rattle.supervisor.proofs.EdgeWords.{length-append, length-drop, Option, Ok, arith, list_all, is_request}
use Rattle.supervisor.proofs.EdgeWords.{option_to_list}
use Rattle.supervisor.proofs.EdgeWords.{eqb-true, eqb-false, append_cancel_left, HeardRequest, heard_of, PartialBlock}
use Rattle.supervisor.proofs.EdgeWords.{ReaderAfter}
use Rattle.supervisor.proofs.EdgeWords.{requests_in_blocks, remainder_of, Goal, Event, is_sound, TakeBytes, CoreState}
use Rattle.supervisor.proofs.EdgeWords.{LogState, Point}
use Rattle.supervisor.proofs.EdgeWords.{byte_after, bytes_after, requested, Continues, is_allowed, gone_on, past_of}
use Rattle.supervisor.proofs.EdgeWords.{Logs}
use Rattle.supervisor.proofs.EdgeWords.{Took, HasReadBytes, Went, CallsLead, Heard, Hears, Tracks}
use Rattle.initctl_frame.proofs.BlockLemmas.{gots_stay, gots_grow, over_feeds, blocks-partial}
use Rattle.trace_events.specs.declared.happenings.Happening.TheVariants as past
use Rattle.supervisor.specs.CallsLead.{TracksPoint}
use Rattle.supervisor.proofs.Point.{bytes_after-append}
use Rattle.supervisor.proofs.Acting.{tracks_at}
use Rattle.supervisor.proofs.Leading.{bytes_allowed, bytes_generation, went_well}
use Rattle.supervisor.proofs.Seconds.{given_short, logged, short_then}
use Rattle.supervisor.proofs.Taking.{Took-none, Took-then}

requested-append : (xs ys : List HeardRequest) (so_far : List Event)
    → requested (xs ++ ys) so_far ≡ requested ys (requested xs so_far)
requested-append [] ys so_far = refl
requested-append (request ∷ xs) ys so_far = requested-append xs ys (past.Got request ∷ so_far)

no_length : (xs : List ℕ) → length xs ≡ 0 → xs ≡ []
no_length [] h = refl
no_length (x ∷ xs) h = absurd (omega (arith, h))

-- a block that is complete leaves no bytes over
over_full : (bytes : List ℕ) (byte : ℕ) → length (remainder_of bytes) + 1 ≡ 384 → remainder_of (bytes ++ byte ∷ []) ≡ []
over_full bytes byte full = no_length (remainder_of (bytes ++ byte ∷ [])) (omega (
  arith,
  full,
  length-drop (384 * (length bytes / 384)) bytes,
  length-drop (384 * (length (bytes ++ byte ∷ []) / 384)) (bytes ++ byte ∷ []),
  length-append bytes (byte ∷ []),
))

-- one more byte
byte_continues : (before : List ℕ) (byte : ℕ) (p : Point) → p.over ≡ remainder_of before
    → Continues before (byte ∷ []) p
byte_continues before byte p is = by (length (p.over ++ byte ∷ []) == 384) refl
  where
    size : length (p.over ++ byte ∷ []) ≡ length (remainder_of before) + 1
    size = length-append p.over (byte ∷ []) ∙ ap (λ (l : List ℕ). length l + 1) is

    by : (b : Bool) → (length (p.over ++ byte ∷ []) == 384) ≡ b → Continues before (byte ∷ []) p
    by true full =
        let whole : length (remainder_of before) + 1 ≡ 384 =
        sym size ∙ eqb-true (length (p.over ++ byte ∷ [])) 384 full in
        record {
          requests = heard_of (p.over ++ byte ∷ []) ∷ [];
          gots = gots_grow before (byte ∷ []) whole
              ∙ ap (λ (l : List ℕ). requests_in_blocks before ++ heard_of (l ++ byte ∷ []) ∷ []) (sym is);
          point = ap (λ b. cond b (record p { over = []; past = past.Got (heard_of (p.over ++ byte ∷ [])) ∷ p.past })
              (record p { over = p.over ++ byte ∷ [] })) full
              ∙ ap (λ (l : List ℕ). record p { over = l; past = past.Got (heard_of (p.over ++ byte ∷ [])) ∷ p.past })
              (sym (over_full before byte whole));
        }
    by false open_still =
        let short : length (remainder_of before) + 1 < 384 =
        omega (arith, blocks-partial before, size, eqb-false (length (p.over ++ byte ∷ [])) 384 open_still) in
        record {
          requests = [];
          gots = gots_stay before (byte ∷ []) short ∙ sym (append-nil (requests_in_blocks before));
          point = ap (λ b. cond b (record p { over = []; past = past.Got (heard_of (p.over ++ byte ∷ [])) ∷ p.past })
              (record p { over = p.over ++ byte ∷ [] })) open_still ∙ ap (λ (l : List ℕ). record p { over = l })
              (ap (λ (l : List ℕ). l ++ byte ∷ []) is ∙ sym (over_feeds before (byte ∷ []) 1 (omega arith) short));
        }

pub bytes_continue : (bytes before : List ℕ) (p : Point) → p.over ≡ remainder_of before → Continues before bytes p
bytes_continue [] before p is = record {
  requests = [];
  gots = ap requests_in_blocks (append-nil before) ∙ sym (append-nil (requests_in_blocks before));
  point = ap (λ (l : List ℕ). record p { over = l }) (is ∙ ap remainder_of (sym (append-nil before)));
}
bytes_continue (byte ∷ bytes) before p is =
    let one : Continues before (byte ∷ []) p = byte_continues before byte p is in
    let q : Point = byte_after byte p in
    let more : Continues (before ++ byte ∷ []) bytes q =
    bytes_continue bytes (before ++ byte ∷ []) q (ap (λ (r : Point). r.over) one.point) in
    let joined : (before ++ byte ∷ []) ++ bytes ≡ before ++ byte ∷ bytes = append_assoc before (byte ∷ []) bytes in
    record {
      requests = one.requests ++ more.requests;
      gots =
          ap requests_in_blocks (sym joined) ∙ more.gots ∙ ap (λ (l : List HeardRequest). l ++ more.requests) one.gots
          ∙ append_assoc (requests_in_blocks before) one.requests more.requests;
      point = more.point
          ∙ (λ i. record
          (one.point i) { over = remainder_of (joined i); past = requested more.requests (one.point i).past })
          ∙ ap (λ (l : List Event). record p { over = remainder_of (before ++ byte ∷ bytes); past = l })
          (sym (requested-append one.requests more.requests p.past));
    }

-- Pieces.

-- an incomplete block is all that is left over
over_own : (over : List ℕ) → length over < 384 → remainder_of over ≡ over
over_own over short = ap (λ n. drop (384 * n) over) (let none : length over / 384 ≡ 0 = omega (arith, short) in none)

-- how a reader that has read the bytes left over handles a piece
pub piece_fed : (old new : PartialBlock) (part : List ℕ) (given : Option HeardRequest) (p : Point) → old.count < 384
    → HasReadBytes old p.over → ((bytes : List ℕ) → ReaderAfter old bytes → ReaderAfter new (bytes ++ part))
    → ((bytes : List ℕ) → ReaderAfter old bytes
    → requests_in_blocks (bytes ++ part) ≡ requests_in_blocks bytes ++ option_to_list given)
    → (HasReadBytes new (bytes_after part p).over)
    × ((bytes_after part p).past ≡ requested (option_to_list given) p.past)
    × (list_all is_request (option_to_list given) ≡ true)
piece_fed old new part given p short stands fed gots =
    let own : remainder_of p.over ≡ p.over = over_own p.over (subst (λ n. n < 384) stands.count short) in
    let before : ReaderAfter old p.over =
    record { count = stands.count ∙ ap length (sym own); front = stands.front ∙ ap (take 16) (sym own) } in
    let behind : ReaderAfter new (p.over ++ part) = fed p.over before in
    let all : Continues p.over part p = bytes_continue part p.over p (sym own) in
    let heard : all.requests ≡ option_to_list given =
    append_cancel_left (requests_in_blocks p.over) all.requests (option_to_list given)
    (sym all.gots ∙ gots p.over before) in
    let over : remainder_of (p.over ++ part) ≡ (bytes_after part p).over =
    ap (λ (q : Point). q.over) (sym all.point) in (
      record { count = behind.count ∙ ap length over; front = behind.front ∙ ap (take 16) over },
      ap (λ (q : Point). q.past) all.point ∙ ap (λ l. requested l p.past) heard,
      given_short (requests_in_blocks p.over) (option_to_list given) (p.over ++ part) (gots p.over before),
    )

pub CallsLead-fed : (c now : CoreState) (old new : PartialBlock) (l₀ l₁ : LogState) (room : ℕ) (part : List ℕ)
    (given : Option HeardRequest) → old.count < 384
    → ((bytes : List ℕ) → ReaderAfter old bytes → ReaderAfter new (bytes ++ part))
    → ((bytes : List ℕ) → ReaderAfter old bytes
    → requests_in_blocks (bytes ++ part) ≡ requests_in_blocks bytes ++ option_to_list given)
    → (list_all is_request (option_to_list given) ≡ true → Hears (Tracks c) (Tracks now) l₀ l₁
    (requested (option_to_list given)))
    → CallsLead (TracksPoint c old) (TracksPoint now new) l₀ l₁ (TakeBytes room (Ok part) ∷ [])
CallsLead-fed c now old new l₀ l₁ room part given short fed gots hears goal p sound fits allowed = (
  tt,
  λ carried.
      let read = piece_fed old new part given p short fits.1 fed gots in
      let heard : Heard (Tracks now) l₀ l₁ goal p (gone_on (requested (option_to_list given)) p) =
      hears read.2 goal p sound fits.0 (ap (is_allowed goal) (sym read.1) ∙ allowed) in
      let more : is_sound goal (bytes_after part p).past ≡ true = ap (is_sound goal) read.1 ∙ heard.sound in
      record {
        well = went_well goal p (TakeBytes room (Ok part) ∷ []) refl more;
        fits = (
          tracks_at now goal (gone_on (requested (option_to_list given)) p) (bytes_after part p) (sym read.1)
              (sym (bytes_generation part p)) heard.fits,
          read.0,
        );
        log =
            logged goal (TakeBytes room (Ok part) ∷ []) p l₀ l₁ more (subst (Logs l₀ l₁ p.past) (sym read.1) heard.log);
      },
)

-- two pieces of the bytes that one call took
pub CallsLead-pieces : (f₀ f₁ f₂ : Goal → Point → Type 0) (l₀ l₁ l₂ : LogState) (room : ℕ) (xs ys : List ℕ)
    → CallsLead f₀ f₁ l₀ l₁ (TakeBytes room (Ok xs) ∷ []) → CallsLead f₁ f₂ l₁ l₂ (TakeBytes room (Ok ys) ∷ [])
    → CallsLead f₀ f₂ l₀ l₂ (TakeBytes room (Ok (xs ++ ys)) ∷ [])
CallsLead-pieces f₀ f₁ f₂ l₀ l₁ l₂ room xs ys one two goal p sound fits allowed = (
  tt,
  λ carried.
      let joined : bytes_after (xs ++ ys) p ≡ bytes_after ys (bytes_after xs p) = bytes_after-append xs ys p in
      let later : is_allowed goal (bytes_after ys (bytes_after xs p)).past ≡ true =
      ap (λ (q : Point). is_allowed goal q.past) (sym joined) ∙ allowed in
      let first : Went past_of f₁ l₀ l₁ goal p (TakeBytes room (Ok xs) ∷ []) =
      (one goal p sound fits (bytes_allowed goal ys (bytes_after xs p) later)).1 refl in
      let second : Went past_of f₂ l₁ l₂ goal (bytes_after xs p) (TakeBytes room (Ok ys) ∷ []) =
      (two goal (bytes_after xs p) first.well.sound first.fits later).1 refl in
      record {
        well = went_well goal p (TakeBytes room (Ok (xs ++ ys)) ∷ []) refl
            (ap (λ (q : Point). is_sound goal q.past) joined ∙ second.well.sound);
        fits = subst (f₂ goal) (sym joined) second.fits;
        log = λ short. subst (λ (q : Point). Took l₀ l₂ p.past q.past) (sym joined)
            (Took-then l₀ l₁ l₂ p.past (bytes_after xs p).past (bytes_after ys (bytes_after xs p)).past
            (first.log short)
            (second.log (short_then goal (TakeBytes room (Ok xs) ∷ []) p first.well.sound short)));
      },
)

-- a call that took no bytes
pub CallsLead-no_bytes : (fit : Goal → Point → Type 0) (log : LogState) (room : ℕ)
    → CallsLead fit fit log log (TakeBytes room (Ok []) ∷ [])
CallsLead-no_bytes fit log room goal p sound fits allowed = (
  tt,
  λ carried. record {
    well = went_well goal p (TakeBytes room (Ok []) ∷ []) refl sound;
    fits = fits;
    log = λ short. Took-none log p.past;
  },
)
