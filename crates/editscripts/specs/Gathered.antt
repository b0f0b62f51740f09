-- Of the code's inside, apart from the rules: how the faults of scripts are gathered, and put by their keys.
use Rattle.std.specs.Prelude.{◌≡◌, ℕ, Bool, List, [], ◌∷◌, ◌++◌, map, Contains, Result}
use Rattle.std.specs.Borrow.{Bor}
use Rattle.std.specs.BTreeMap.{BTreeMap}
use Rattle.std.specs.declared.cmp.Ordering.{Ordering}
use Rattle.std.specs.Ordering.{nat_cmp, ordering_then}
use Rattle.std.specs.Cmp.Lexicographic.{slice_cmp}
use Rattle.std.specs.List.{AllZip}
use Rattle.mmtext.specs.Text.{Token}
use Rattle.mmtext.specs.declared.fault.TextFault.{TextFault}
use Rattle.source.specs.Scopes.{Scope}
use Rattle.checking.specs.Checks.{Bytes}
use Rattle.expanding.specs.Barred.{Barred, AreAllBarred}
use Rattle.expanding.specs.Discouraged.{Discouraged}
use Rattle.editscripts.specs.Undone.{each_from}
use Rattle.editscripts.specs.Faults.{ScriptFault, key_of, IsReading, words_read, read_faults, SpreadScript, IsSpreadOut, words_spread}
use Rattle.editscripts.specs.Faults.{spread_faults, barred_fault, counted_fault, AreCounted}
use Rattle.editscripts.specs.Views.{seen_fault, seen_key}
use Rattle.editscripts.specs.declared.faults.ScriptFault.{ScriptFault as CodeFault}

-- ---- gathered

-- texts are read, and their faults are put behind others
pub record AreRead (texts : List Bytes) (before after : List ScriptFault) (words : List (List Token)) : Type 0 where
  pub readings : List (Result (List Token) TextFault)
  pub are_readings : AllZip IsReading texts readings
  pub words_are : words ≡ map words_read readings
  pub faults_are : after ≡ before ++ each_from read_faults 0 readings

-- words are spread, and what doesn't fit is put
pub record AreSpreadOut (s : Scope) (words : List (List Token)) (before after : List ScriptFault) (outs : List (List Token))
    : Type 0 where
  pub spread : List SpreadScript
  pub are_spread : AllZip (IsSpreadOut s) words spread
  pub outs_are : outs ≡ words_spread spread
  pub faults_are : after ≡ before ++ each_from spread_faults 0 spread

-- what theorems forbid is put
pub record ArePutBarred (s : Scope) (scripts : List (List Token)) (before after : List ScriptFault) : Type 0 where
  pub barred : List Barred
  pub are_barred : AreAllBarred s scripts barred
  pub faults_are : after ≡ before ++ map barred_fault barred

-- what comments discourage is put
pub record ArePutCounted (source : Bytes) (s : Scope) (force : Bool) (scripts : List (List Token)) (before after : List ScriptFault)
    : Type 0 where
  pub counted : List (ℕ × Discouraged)
  pub are_counted : AreCounted source s force scripts counted
  pub faults_are : after ≡ before ++ map counted_fault counted

-- ---- by their keys

abbrev pub CodeKey : Type 0
CodeKey = ℕ × ℕ × ℕ × Bor (List ℕ)

-- how a map orders them
abbrev pub code_order : CodeKey → CodeKey → Ordering
code_order x y =
    ordering_then (ordering_then (ordering_then (nat_cmp x.0 y.0) (nat_cmp x.1 y.1)) (nat_cmp x.2 y.2)) (slice_cmp nat_cmp x.3.now y.3.now)

abbrev pub Entry : Type 0
Entry = CodeKey × CodeFault

-- each has its key
abbrev pub AreKeyed : List Entry → Type 0
AreKeyed [] = Unit {0}
AreKeyed (e ∷ es) = (seen_key e.0 ≡ key_of (seen_fault e.1)) × AreKeyed es

abbrev pub faults_of : List Entry → List ScriptFault
faults_of es = map (λ e. seen_fault e.1) es

-- faults are put by their keys
pub record ArePlaced (all : List ScriptFault) (es : List Entry) : Type 0 where
  pub keyed : AreKeyed es
  pub sound : (f : ScriptFault) → Contains (faults_of es) f → Contains all f
  pub complete : (f : ScriptFault) → Contains all f → (g : ScriptFault) × Contains (faults_of es) g × (key_of g ≡ key_of f)

abbrev pub IsPlaced : List ScriptFault → BTreeMap CodeKey CodeFault → Type 0
IsPlaced all m = ArePlaced all m.entries
