use Rattle.std.proofs.Common.{rules, ◌≡◌, ◌∙◌, ap, [], ◌∷◌, ◌++◌}
use Rattle.host_files.proofs.folders.with_folder.Goals.{in-Some+in_ok-name-items+in-None, in_default}
use Rattle.host_files.proofs.folders.with_folder.Goals as goal

pub loop-name-init : goal.loop-name-init
loop-name-init g c = ([], search rules)

pub loop-name-preserved : goal.loop-name-preserved
loop-name-preserved g c =
    let part = c.in_ok-part_in.field-0 in
    let more = c.loop-name.invariant.0 in
    let pushed : c.push-in-loop-name.new.self.items ≡ c.loop-name.parts.items ++ part ∷ [] = search rules in
    (more ++ part ∷ [], pushed ∙ ap (λ t. t ++ part ∷ []) c.loop-name.invariant.1)

pub returns-clause-main_part : goal.returns-clause-main_part
returns-clause-main_part g c = elim c.match-folder.branch [
  | in-Some+in_ok-name-items+in-None w ↦ (w.loop-name.invariant.0, search rules)
  | in_default w ↦ ([], search rules)
]
