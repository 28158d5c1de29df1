use Rattle.trace_view.proofs.Words.{unreaped_children}
use Rattle.trace_check.proofs.Passing.{lone_lawful}
use Rattle.trace_view.proofs.Lones.{lone_first}
use Rattle.trace_view.proofs.children.take_kept.Goals as goal

pub returns-in_ok-push_some-in-Told : goal.returns-in_ok-push_some-in-Told
returns-in_ok-push_some-in-Told g c = λ past lawful in_force unreaped kept.
    rw (
      c.in-Told.is,
      c.in_ok-push_some-in-Told.ensures,
      c.youngest_of.ensures,
      c.in_ok-drop_id-in-Told.ensures,
      unreaped,
      kept,
    ) (lone_first _ (unreaped_children past) _ (lone_lawful past lawful _))
