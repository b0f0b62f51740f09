-- The faults of scripts that can be told before they are run: all of them, each once, in order, and the text that tells them.
use Rattle.std.specs.Prelude.{◌≡◌, ◌≢◌, ◌+◌, ◌-◌, ℕ, zero, suc, Bool, true, false, List, [], ◌∷◌, ◌++◌, length, map, take, Contains, codes}
use Rattle.std.specs.Prelude.{Result, Ok, Err, slice_index_or}
use Rattle.std.specs.declared.cmp.Ordering.{Ordering}
use Rattle.std.specs.Ordering.{nat_cmp, ordering_then}
use Rattle.std.specs.Cmp.Lexicographic.{slice_cmp}
use Rattle.std.specs.List.{AllZip, flat_map}
use Rattle.std.specs.List.Sorted.{IsStrictlySortedBy}
use Rattle.std.specs.Fmt.{decimal}
use Rattle.mmtext.specs.Text.{Token}
use Rattle.mmtext.specs.Words.{Word}
use Rattle.mmtext.specs.Laws.{Says}
use Rattle.mmtext.specs.Languages.{Faulty}
use Rattle.mmtext.specs.declared.fault.TextFault.{TextFault}
use Rattle.source.specs.Scopes.{Scope}
use Rattle.checking.specs.Checks.{Bytes}
use Rattle.locating.specs.Told.{text_line}
use Rattle.spreading.specs.Words.{word_language}
use Rattle.spreading.specs.Spreading.{Misfit, unknown, numbered, not_alone, IsSpreadWith}
use Rattle.expanding.specs.Barred.{Barred, AreAllBarred}
use Rattle.expanding.specs.Discouraged.{Discouraged, modifies, uses, AreDiscouraged}
use Rattle.editscripts.specs.declared.faults.TheConstants.{MOST_TOLD}
use Rattle.editscripts.specs.Undone.{each_from}
use Rattle.editscripts.specs.Encouraged.{Remarks, remarked_in, discouraged_word, discouraged_line}
use Rattle.editscripts.specs.Refusals.{misfit_word, misfit_line, barred_line}

-- ---- a fault

-- a text has no words, since a byte may stand in none, or a comment isn't closed (Metamath book, sections 4.1.1, 4.1.2): its first fault;
-- a word doesn't fit the source; a theorem forbids a command, as it cites the assertion with the label that the command names (4.2.8); a
-- command does what a comment of the source discourages
pub data What : Type 0 where
  wordless : TextFault → What
  unfit : Misfit → What
  forbidden : Token → Word → What
  discouraged : Discouraged → What

-- in a script, from 0
pub record ScriptFault : Type 0 where
  pub script : ℕ
  pub what : What

abbrev pub fault_in : ℕ → What → ScriptFault
fault_in script what = record { script = script; what = what }

-- ---- what scripts say of a source

-- the words of a text outside of its comments, or its first fault
abbrev pub IsReading : Bytes → Result (List Token) TextFault → Type 0
IsReading text (Ok ts) = Says word_language text ts
IsReading text (Err f) = Faulty word_language text f

-- a text with a fault counts as one without words
abbrev pub words_read : Result (List Token) TextFault → List Token
words_read (Ok ts) = ts
words_read (Err f) = []

-- the words of a script by the source, whether they fit or not, and which don't
pub record SpreadScript : Type 0 where
  pub words : List Token
  pub misfits : List Misfit

abbrev pub IsSpreadOut : Scope → List Token → SpreadScript → Type 0
IsSpreadOut s ts x = IsSpreadWith s ts x.words x.misfits

abbrev pub words_spread : List SpreadScript → List (List Token)
words_spread xs = map (λ x. x.words) xs

-- what they do although a comment discourages it: nothing counts where it is forced
abbrev pub AreCounted : Bytes → Scope → Bool → List (List Token) → List (ℕ × Discouraged) → Type 0
AreCounted source s true scripts ds = ds ≡ []
AreCounted source s false scripts ds = (remarks : Remarks source) × AreDiscouraged s (remarked_in remarks) scripts ds

-- texts as they are read; these by the source; what theorems forbid them; what comments discourage
pub record Heard (source : Bytes) (s : Scope) (texts : List Bytes) (force : Bool) : Type 0 where
  pub readings : List (Result (List Token) TextFault)
  pub are_readings : AllZip IsReading texts readings
  pub spread : List SpreadScript
  pub are_spread : AllZip (IsSpreadOut s) (map words_read readings) spread
  pub barred : List Barred
  pub are_barred : AreAllBarred s (words_spread spread) barred
  pub counted : List (ℕ × Discouraged)
  pub are_counted : AreCounted source s force (words_spread spread) counted

-- ---- all faults

abbrev pub read_faults : ℕ → Result (List Token) TextFault → List ScriptFault
read_faults script (Ok ts) = []
read_faults script (Err f) = fault_in script (wordless f) ∷ []

abbrev pub spread_faults : ℕ → SpreadScript → List ScriptFault
spread_faults script x = map (λ m. fault_in script (unfit m)) x.misfits

abbrev pub barred_fault : Barred → ScriptFault
barred_fault b = fault_in b.script (forbidden b.label b.by)

abbrev pub counted_fault : ℕ × Discouraged → ScriptFault
counted_fault d = fault_in d.0 (discouraged d.1)

abbrev pub all_faults : {source : Bytes} {s : Scope} {texts : List Bytes} {force : Bool} → Heard source s texts force → List ScriptFault
all_faults h =
    ((each_from read_faults 0 h.readings ++ each_from spread_faults 0 h.spread) ++ map barred_fault h.barred) ++ map counted_fault h.counted

-- ---- their order

-- where the word at fault stands in its script
abbrev pub place_of_fault : What → ℕ
place_of_fault (wordless f) = f.place
place_of_fault (unfit m) = (misfit_word m).place
place_of_fault (forbidden t by) = t.place
place_of_fault (discouraged d) = (discouraged_word d).place

-- kinds at one word
abbrev pub kind_of_fault : What → ℕ
kind_of_fault (wordless f) = 0
kind_of_fault (unfit (unknown t)) = 1
kind_of_fault (unfit (numbered t)) = 2
kind_of_fault (unfit (not_alone t)) = 3
kind_of_fault (forbidden t by) = 4
kind_of_fault (discouraged (modifies t)) = 5
kind_of_fault (discouraged (uses t)) = 6

-- the word that it tells
abbrev pub word_of_fault : What → Word
word_of_fault (wordless f) = []
word_of_fault (unfit m) = (misfit_word m).text
word_of_fault (forbidden t by) = t.text
word_of_fault (discouraged d) = (discouraged_word d).text

-- faults with one key are one, whichever theorem is named
abbrev pub Key : Type 0
Key = ℕ × ℕ × ℕ × Bytes

abbrev pub key_of : ScriptFault → Key
key_of f = (f.script, place_of_fault f.what, kind_of_fault f.what, word_of_fault f.what)

-- by the scripts, by the places in one, by the kinds at one word, by the words told there
abbrev pub order : Key → Key → Ordering
order x y =
    ordering_then (ordering_then (ordering_then (nat_cmp x.0 y.0) (nat_cmp x.1 y.1)) (nat_cmp x.2 y.2)) (slice_cmp nat_cmp x.3 y.3)

-- of all faults each once, in order
pub record AreOrdered (all fs : List ScriptFault) : Type 0 where
  pub sound : (f : ScriptFault) → Contains fs f → Contains all f
  pub complete : (f : ScriptFault) → Contains all f → (g : ScriptFault) × Contains fs g × (key_of g ≡ key_of f)
  pub in_order : IsStrictlySortedBy order (map key_of fs)

-- these are the faults of scripts
pub record AreFaults (source : Bytes) (s : Scope) (texts : List Bytes) (force : Bool) (fs : List ScriptFault) : Type 0 where
  pub heard : Heard source s texts force
  pub ordered : AreOrdered (all_faults heard) fs

-- ---- what is told

abbrev pub fault_line : Bytes → Bytes → What → Bytes
fault_line path text (wordless f) = text_line path text f
fault_line path text (unfit m) = misfit_line path text m
fault_line path text (forbidden t by) = barred_line path text t by
fault_line path text (discouraged d) = discouraged_line path text d

-- in front of the paths of the scripts stands that of the source
abbrev pub line_of_fault : List Bytes → List Bytes → ScriptFault → Bytes
line_of_fault paths texts f = fault_line (slice_index_or paths (f.script + 1) []) (slice_index_or texts f.script []) f.what

-- how many more there are, if there are
abbrev pub rest_lines : ℕ → List Bytes
rest_lines zero = []
rest_lines (suc n) = (codes "faults of the scripts that are not shown: " ++ decimal (suc n)) ∷ []

-- the first of them, and how many more there are
abbrev pub told_lines : List Bytes → List Bytes → List ScriptFault → List Bytes
told_lines paths texts fs = map (line_of_fault paths texts) (take MOST_TOLD fs) ++ rest_lines (length fs - MOST_TOLD)

-- a line end between two
abbrev pub lines_text : List Bytes → Bytes
lines_text [] = []
lines_text (l ∷ ls) = l ++ flat_map (λ x. 10 ∷ x) ls

-- scripts have faults, which are told
pub record IsFaultsText (paths : List Bytes) (source : Bytes) (s : Scope) (texts : List Bytes) (force : Bool) (text : Bytes)
    : Type 0 where
  pub faults : List ScriptFault
  pub are_faults : AreFaults source s texts force faults
  pub some : faults ≢ []
  pub says : text ≡ lines_text (told_lines paths texts faults)
