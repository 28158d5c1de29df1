use Rattle.std.proofs.Common.{rules, arith, Some, None, if◌then◌else◌, ◌≡◌, ℕ, Bool, true, false, List, ◌++◌, ◌∙◌, refl}
use Rattle.std.proofs.Common.{string_bytes, take, drop}
use Rattle.std.proofs.lemmas.List.{take-append-drop, take_all}
use Rattle.std.specs.Option.{option_map}
use Rattle.std.specs.Str.{bytes_eq}
use Rattle.test_commands.proofs.one_channel.OneChannelChannels.append.Goals as goal

one_more : (old more : List ℕ) (b : Bool) → (if b then Some (old ++ more) else None)
    ≡ (if b then option_map (λ bytes. bytes ++ more) (if b then Some old else None) else (if b then Some old else None))
one_more old more true = refl
one_more old more false = refl

gained : (own path old more new : List ℕ) → path ≡ own → new ≡ old ++ more → (at : List ℕ)
    → (if bytes_eq at own then Some new else None)
    ≡ (if bytes_eq at path then option_map (λ bytes. bytes ++ more) (if bytes_eq at own then Some old else None)
    else (if bytes_eq at own then Some old else None))
gained own path old more new same gains at = rw (same, gains) (one_more old more (bytes_eq at own))

pub returns-then-taken-lt-BLOCK-clause-err : goal.returns-then-taken-lt-BLOCK-clause-err
returns-then-taken-lt-BLOCK-clause-err c =
    let taken = c.min-taken.result in
    let block = c.args.block.now in
    let same : c.args.path.now ≡ string_bytes c.args.self.now.path = search rules in
    let more : c.extend_from_slice.new.self.items ≡ c.args.self.now.bytes.items ++ take taken block = search rules in
    (take taken block, drop taken block, take-append-drop taken block, gained _ _ _ _ _ same more)

pub returns-clause-ok : goal.returns-clause-ok
returns-clause-ok c =
    let taken = c.min-taken.result in
    let block = c.args.block.now in
    let same : c.args.path.now ≡ string_bytes c.args.self.now.path = search rules in
    let more : c.extend_from_slice.new.self.items ≡ c.args.self.now.bytes.items ++ take taken block = search rules in
    let whole : take taken block ≡ block = take_all taken block (grind (arith, c.fits-block)) in
    gained _ _ _ _ _ same (more ∙ rw whole refl)
