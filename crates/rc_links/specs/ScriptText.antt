-- An init script, as its name and the fields of its header.
use Rattle.std.specs.Prelude.{ℕ, List}
use Rattle.lsb_header.specs.HeaderText.{HeaderText}

pub record ScriptText : Type 0 where
  pub name : List ℕ
  pub header : HeaderText
