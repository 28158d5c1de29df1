-- The files for the children's output. An id's file is named after it if the id consists of printable ASCII characters
-- other than a slash, and does not begin with a dot; otherwise the file is `_.log`.
use Rattle.std.specs.Prelude.{ℕ, Bool, ◌&&◌, not, ◌==◌, nat_le, if◌then◌else◌, List, ◌++◌, codes}
use Rattle.std.specs.List.{list_all}
use Rattle.host_files.specs.Folders.{is_hidden}

-- a printable ASCII character, except blank and slash
abbrev pub is_log_byte : ℕ → Bool
is_log_byte byte = nat_le 33 byte && nat_le byte 126 && not (byte == 47)

-- the id followed by `.log` can name a file that is not hidden
abbrev pub is_log_name : List ℕ → Bool
is_log_name id = not (is_hidden id) && list_all is_log_byte id

-- the name of the id's log, without `.log`
abbrev pub log_name : List ℕ → List ℕ
log_name id = if is_log_name id then id else codes "_"

-- the path of the id's log in this folder
abbrev pub log_path : List ℕ → List ℕ → List ℕ
log_path folder id = folder ++ (codes "/" ++ (log_name id ++ codes ".log"))
