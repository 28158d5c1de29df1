use Rattle.trace_view.proofs.Words.{unreaped_children}
use Rattle.trace_check.proofs.Passing.{lone_lawful}
use Rattle.trace_view.proofs.Lones.{lone_without}
use Rattle.trace_view.proofs.children.take_unreaped.Goals as goal

pub returns-in_ok-drop_child-in-Reaped : goal.returns-in_ok-drop_child-in-Reaped
returns-in_ok-drop_child-in-Reaped g c = λ past lawful in_force unreaped.
    rw (c.in-Reaped.is, c.in_ok-drop_child-in-Reaped.ensures, unreaped)
    (lone_without _ _ (unreaped_children past) (lone_lawful past lawful _))
