use Rattle.rclinks_command.proofs.Words.{◌≡◌, map, drop, list_any, bytes_eq, last_part}
use Rattle.rclinks_command.proofs.facilities.is_unnamed.Given as goal

abbrev pub invariant-loop-file : goal.invariant-loop-file
invariant-loop-file l =
    list_any (λ file. bytes_eq (last_part file) (last_part l.facility))
    (map (λ file. file.now) (drop l.file-index l.files))
    ≡ list_any (λ file. bytes_eq (last_part file) (last_part l.facility)) (map (λ file. file.now) l.files)
