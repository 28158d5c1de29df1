-- The scripts in files.
use Rattle.std.specs.Prelude.{◌≡◌, ◌⊎◌, ℕ, Bool, true, false, ◌==◌, if◌then◌else◌, List, [], ◌∷◌, None, Err, Ok}
use Rattle.std.specs.List.{list_any}
use Rattle.lsb_header.specs.declared.faults.HeaderFault.{HeaderFault}
use Rattle.lsb_header.specs.declared.faults.HeaderFault.TheVariants as header_fault
use Rattle.lsb_header.specs.Headers.{header_read}
use Rattle.lsb_header.specs.Places.{second_keyword_line}
use Rattle.program_io.specs.Known.{IsTextAt, KnownTexts}
use Rattle.rc_links.specs.Names.{is_name}
use Rattle.rc_links.specs.ScriptText.{ScriptText}
use Rattle.rclinks_command.specs.declared.files.FileFault.{FileFault}
use Rattle.rclinks_command.specs.declared.files.FileFault.TheVariants as fault

-- the byte is a '/'
abbrev pub is_slash : ℕ → Bool
is_slash b = b == 47

-- the text after the last '/' of a path, or the whole path if it has none
abbrev pub last_part : List ℕ → List ℕ
last_part [] = []
last_part (b ∷ path) = if list_any is_slash (b ∷ path) then last_part path else b ∷ path

-- this is the script in a file with this name and text
pub record IsScriptOf (name text : List ℕ) (script : ScriptText) : Type 0 where
  pub named : script.name ≡ name
  pub fit : is_name name ≡ true
  pub read : header_read text ≡ Ok script.header

-- this is the script at the path, whose name is the last part of the path
abbrev pub IsScriptAt : KnownTexts → List ℕ → ScriptText → Type 0
IsScriptAt text_at path script =
    (text : List ℕ) × IsTextAt text_at path text × IsScriptOf (last_part path) text script

-- these are the scripts at the paths, in order
abbrev pub AreScripts : KnownTexts → List (List ℕ) → List ScriptText → Type 0
AreScripts text_at [] [] = Unit {0}
AreScripts text_at [] (s ∷ scripts) = ⊥
AreScripts text_at (path ∷ paths) [] = ⊥
AreScripts text_at (path ∷ paths) (s ∷ scripts) = IsScriptAt text_at path s × AreScripts text_at paths scripts

-- the fault of a file with this text, whose header has this fault; if a keyword occurs twice, the fault contains the
-- number of the second line
abbrev pub refusal_of : List ℕ → HeaderFault → FileFault
refusal_of text header_fault.NoBegin = fault.Header header_fault.NoBegin None
refusal_of text header_fault.NoEnd = fault.Header header_fault.NoEnd None
refusal_of text (header_fault.BadLine number) = fault.Header (header_fault.BadLine number) None
refusal_of text (header_fault.Twice keyword) =
    fault.Header (header_fault.Twice keyword) (second_keyword_line text keyword)
refusal_of text header_fault.NoProvides = fault.Header header_fault.NoProvides None
refusal_of text header_fault.Memory = fault.Memory

-- the reason why a file with this name and text, which could be read, is not a script
abbrev pub IsNoScript : List ℕ → List ℕ → FileFault → Type 0
IsNoScript name text (fault.Unread error) = ⊥
IsNoScript name text fault.Name = is_name name ≡ false
IsNoScript name text (fault.Header found line) =
    (is_name name ≡ true) × (header_read text ≡ Err found) × (refusal_of text found ≡ fault.Header found line)
IsNoScript name text fault.Memory = Unit {0}

-- the reason why the file at this path is not a script; a file with a known text can always be read, and that memory
-- ran out is not a reason
abbrev pub IsNoScriptAt : KnownTexts → List ℕ → FileFault → Type 0
IsNoScriptAt text_at path (fault.Unread error) = text_at path ≡ None
IsNoScriptAt text_at path fault.Name = is_name (last_part path) ≡ false
IsNoScriptAt text_at path (fault.Header found line) =
    (text : List ℕ) × IsTextAt text_at path text × IsNoScript (last_part path) text (fault.Header found line)
IsNoScriptAt text_at path fault.Memory = ⊥

-- the reason why the script at a path is not available: the file is not a script, or memory ran out
abbrev pub IsNotRead : KnownTexts → List ℕ → FileFault → Type 0
IsNotRead text_at path found = (found ≡ fault.Memory) ⊎ IsNoScriptAt text_at path found

-- the exit status: 1 for a name or a header that is rejected, 4 for a file that can't be read or if memory ran out
abbrev pub file_status : FileFault → ℕ
file_status (fault.Unread error) = 4
file_status fault.Name = 1
file_status (fault.Header found line) = 1
file_status fault.Memory = 4
