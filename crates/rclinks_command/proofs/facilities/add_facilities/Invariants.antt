use Rattle.rclinks_command.proofs.Words.{string_bytes, ◌≡◌, ◌++◌, map, drop, filter}
use Rattle.rclinks_command.specs.Facilities.{is_unnamed}
use Rattle.rclinks_command.proofs.facilities.add_facilities.Given as goal

abbrev pub invariant-loop-facility : goal.invariant-loop-facility
invariant-loop-facility l =
    map (λ file. file.now) l.all.items
    ++ filter (is_unnamed (map (λ file. file.now) l.fn.files)) (map string_bytes (drop l.facility-index l.facilities))
    ≡ map (λ file. file.now) l.fn.all.items
    ++ filter (is_unnamed (map (λ file. file.now) l.fn.files)) (map string_bytes l.facilities)
