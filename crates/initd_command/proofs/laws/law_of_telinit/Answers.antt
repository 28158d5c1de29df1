use Rattle.initd_command.proofs.Words.{arith, ◌≡◌, refl, sym, ◌∙◌, ap, subst, ℕ, ◌+◌, ◌*◌, ◌/◌, ◌%◌, Bool, true}
use Rattle.initd_command.proofs.Words.{if◌then◌else◌, List, [], ◌∷◌, ◌++◌, length, option_map, length-drop}
use Rattle.std.proofs.lemmas.List.{append_cancel_left, append_assoc, length-append}
use Rattle.std.specs.Prelude.{IfSome}
use Rattle.std.specs.Str.{bytes_eq}
use Rattle.std.proofs.lemmas.Slice.Eq.{bytes_eq-Decides}
use Rattle.initctl_frame.specs.declared.requests.Request.{Request}
use Rattle.initctl_frame.specs.declared.requests.Request.TheVariants as request
use Rattle.initctl_frame.specs.Frames.{block_of, heard_of}
use Rattle.initctl_frame.specs.Blocks.{requests_in_blocks, remainder_of}
use Rattle.initctl_frame.proofs.BlockLemmas.{gots_grow}
use Rattle.supervisor.specs.Requests.{Brings, bytes_of, requests_in}
use Rattle.supervisor.proofs.Requests.{calls_bring}
use Rattle.initd_command.specs.Words.{HostCall, Point, point_after}
use Rattle.initd_command.specs.Heard.{NextRequestIs}
use Rattle.initd_command.proofs.laws.law_of_telinit.Goals as goal

-- ---- a request is a whole block

whole_block : (asked : Request) → length (block_of asked) ≡ 384
whole_block (request.Runlvl code secs) = refl
whole_block (request.Power kind) = refl

-- ---- after whole requests it is the next one

none_of : (xs : List ℕ) → length xs ≡ 0 → xs ≡ []
none_of [] h = refl
none_of (x ∷ xs) h = absurd (omega (arith, h))

next_of : (stood block : List ℕ) (calls : List HostCall) (p : Point) → length stood % 384 ≡ 0 → length block ≡ 384
    → p.over ≡ [] → bytes_of calls ≡ stood ++ block
    → requests_in (point_after calls p).past ≡ requests_in p.past ++ (requests_in_blocks stood ++ heard_of block ∷ [])
next_of stood block calls p whole long none took =
    let over : length (remainder_of stood) ≡ 0 = omega (arith, length-drop (384 * (length stood / 384)) stood, whole) in
    let brings : Brings [] calls p = calls_bring calls [] p none in
    let grown : requests_in_blocks (stood ++ block) ≡ requests_in_blocks stood ++ heard_of block ∷ [] =
    gots_grow stood block (omega (arith, over, long))
    ∙ ap (λ xs. requests_in_blocks stood ++ heard_of (xs ++ block) ∷ []) (none_of (remainder_of stood) over) in
    brings.past
    ∙ ap (λ more. requests_in p.past ++ more) (sym brings.gots ∙ ap requests_in_blocks took ∙ grown)

brings_next : (stood block : List ℕ) → length stood % 384 ≡ 0 → length block ≡ 384
    → NextRequestIs stood (heard_of block) (stood ++ block)
brings_next stood block whole long front later calls p parts passed none took =
    let fits : length (front ++ later) % 384 ≡ 0 = subst (λ xs. length xs % 384 ≡ 0) parts whole in
    let rest : length later % 384 ≡ 0 = omega (arith, fits, passed, length-append front later) in
    next_of later block calls p rest long none
    (append_cancel_left front (bytes_of calls) (later ++ block)
    (took ∙ ap (λ xs. xs ++ block) parts ∙ append_assoc front later block))

same : (path : List ℕ) → bytes_eq path path ≡ true
same path = (bytes_eq-Decides path path).1 refl

pub returns : goal.returns
returns c home words old new (path, block, (options, read, at, frame), whole, gained) = (
  path,
  block,
  (options, read, at, frame),
  λ stood was. (
    stood ++ block,
    gained path ∙ ap (λ (b : Bool). if b then option_map (λ bytes. bytes ++ block) (old path) else old path) (same path)
        ∙ ap (option_map (λ bytes. bytes ++ block)) was,
    brings_next stood block (subst (λ o. IfSome o (λ bytes. length bytes % 384 ≡ 0)) was whole)
        (ap length (sym frame) ∙ whole_block options.request),
  ),
)
