-- Of the code's inside, apart from the rules: what is always true of the tables.
use Rattle.std.specs.Prelude.{◌≡◌, ◌<◌, ◌≤◌, ℕ, Bool, true, false, List, [], ◌∷◌, length, take, reverse, ◌-◌, Option, Some, None, slice_get}
use Rattle.std.specs.Option.{option_map}
use Rattle.std.specs.List.{AllByRecursion}
use Rattle.std.specs.Str.{bytes_eq}
use Rattle.std.specs.HashMap.{HashMap, get_by}
use Rattle.std.specs.Borrow.{Bor}
use Rattle.wordkeys.specs.declared.keys.WordKeys.{WordKeys}
use Rattle.mmtext.specs.Words.{Word}
use Rattle.source.specs.Scopes.{label_of, Scope, is_in, is_float_of, mandatory}
use Rattle.scopes.specs.declared.tables.Name.{Name}
use Rattle.scopes.specs.declared.tables.Name.TheVariants as name
use Rattle.scopes.specs.declared.tables.Active.{Active}
use Rattle.scopes.specs.declared.tables.Block.{Block}
use Rattle.scopes.specs.declared.tables.Tables.{Tables}
use Rattle.scopes.specs.Paths.{path, IsWithin}
use Rattle.scopes.specs.Views.{Linked, Entry, Kept, kept_of, hypotheses_at, active_of, scope_of}
use Rattle.scopes.specs.Found.{Found}

-- ---- what a name says

abbrev pub is_constant : Option Name → Bool
is_constant (Some name.Constant) = true
is_constant _ = false

abbrev pub is_symbol : Option Name → Bool
is_symbol (Some name.Constant) = true
is_symbol (Some (name.Variable i f)) = true
is_symbol _ = false

abbrev pub is_label_name : Option Name → Bool
is_label_name (Some (name.Hypothesis i)) = true
is_label_name (Some (name.Assertion i)) = true
is_label_name _ = false

abbrev pub variable_place : Option Name → Option ℕ
variable_place (Some (name.Variable i f)) = Some i
variable_place _ = None

abbrev pub float_place : Option Name → Option ℕ
float_place (Some (name.Variable i f)) = f
float_place _ = None

abbrev pub hypothesis_place : Option Name → Option ℕ
hypothesis_place (Some (name.Hypothesis i)) = Some i
hypothesis_place _ = None

abbrev pub assertion_place : Option Name → Option ℕ
assertion_place (Some (name.Assertion i)) = Some i
assertion_place _ = None

-- the name that is noted for a word, if any, says where to look
pub record KnowsWord (s : Scope) (w : Word) (o : Option Name) : Type 0 where
  pub constant : is_in s.constants w ≡ is_constant o
  pub symbol : is_in s.symbols w ≡ is_symbol o
  pub label : is_in s.labels w ≡ is_label_name o
  pub variable : Found (bytes_eq w) s.variables (variable_place o)
  pub float : Found (is_float_of w) s.hypotheses (float_place o)
  pub hypothesis : Found (λ h. bytes_eq w (label_of h)) s.hypotheses (hypothesis_place o)
  pub assertion : Found (λ a. bytes_eq w a.label) s.assertions (assertion_place o)

-- ---- numbers and lengths

-- the number of the last of some active hypotheses
abbrev pub last_link : List Active → Option ℕ
last_link active = option_map (λ a. a.link) (slice_get active (length active - 1))

-- a block began with no more than there is
pub record IsBelow (b : Block) (cs vs hs ss ls es : ℕ) : Type 0 where
  pub constants : b.constants ≤ cs
  pub variables : b.variables ≤ vs
  pub active : b.active ≤ hs
  pub symbols : b.symbols ≤ ss
  pub labels : b.labels ≤ ls
  pub assertions : b.assertions ≤ es

-- each of the blocks began with no more than the next
abbrev pub AreNested : List Block → (aparts cs vs hs ss ls es : ℕ) → Type 0
AreNested [] aparts cs vs hs ss ls es = Unit {0}
AreNested (b ∷ bs) aparts cs vs hs ss ls es =
    IsBelow b cs vs hs ss ls es
    × IsWithin b.apart aparts
    × AreNested bs aparts b.constants b.variables b.active b.symbols b.labels b.assertions

-- the numbers of an assertion are there, and those of its mandatory hypotheses are right
pub record IsNumbered (links : List Linked) (aparts : ℕ) (e : Entry) : Type 0 where
  pub hypotheses : IsWithin e.hypotheses (length links)
  pub apart : IsWithin e.apart aparts
  pub mandatory_there : AllByRecursion (λ i. i < length links) e.mandatory_links
  pub mandatory_are : hypotheses_at links e.mandatory_links ≡ mandatory (path links e.hypotheses) e.statement

-- what is always true, where the map of names finds what `look` says
pub record IsSound (look : Word → Option Name) (k : Kept) : Type 0 where
  pub named : (w : Word) → KnowsWord (scope_of k) w (look w)
  pub within : AllByRecursion (λ a. a.link < length k.links) k.active
  pub listed : (n : ℕ) → path k.links (last_link (take n k.active)) ≡ active_of k.links (take n k.active)
  pub apart : IsWithin k.last_apart (length k.aparts)
  pub numbered : AllByRecursion (IsNumbered k.links (length k.aparts)) k.entries
  pub nested : AreNested (reverse k.blocks) (length k.aparts) (length k.constants) (length k.variables)
      (length k.active) (length k.symbols) (length k.labels) (length k.entries)

-- what the map of names finds
abbrev pub looks_up : HashMap (Bor (List ℕ)) Name WordKeys → Word → Option Name
looks_up names w = get_by (λ k. bytes_eq w k.now) names

abbrev pub IsSoundTables : Tables → Type 0
IsSoundTables t = IsSound (looks_up t.names) (kept_of t)
