-- Of the code's inside, apart from the rules: the labels of assertions and of all $e, as maps.
use Rattle.std.specs.Prelude.{◌≡◌, ◌||◌, ℕ, List, Vec, Option, Some, None, is_some, if◌then◌else◌}
use Rattle.std.specs.List.{list_any}
use Rattle.std.specs.Str.{bytes_eq}
use Rattle.std.specs.HashMap.{HashMap, get_by}
use Rattle.std.specs.declared.alloc.Global.{Global}
use Rattle.std.specs.declared.random_state.RandomState.{RandomState}
use Rattle.mmsyntax.specs.Dotted.{is_dotted}
use Rattle.mmsyntax.specs.Rows.{Units, is_assertion_label}
use Rattle.mmunits.specs.declared.known.Owner.{Owner}
use Rattle.mmunits.specs.declared.known.Owner.TheVariants as owner

-- whose label a word is: of an assertion, or else of a $e, if of any
abbrev pub owner_of : Units → List ℕ → Option Owner
owner_of u w =
    if is_assertion_label u.assertions w then Some owner.Assertion
    else (if list_any (bytes_eq w) u.hypothesis_labels then Some owner.Hypothesis else None)

-- the one map has the labels of the units, each with its owner, and no others; the other has each L where some assertion has the label L.k
pub record HasLabels (labels : HashMap (Vec ℕ Global) Owner RandomState) (trunks : HashMap (Vec ℕ Global) (Unit {0}) RandomState)
    (u : Units) : Type 0 where
  pub owned : (w : List ℕ) → get_by (λ k. bytes_eq w k.items) labels ≡ owner_of u w
  pub dotted : (w : List ℕ) → is_some (get_by (λ k. bytes_eq w k.items) trunks) ≡ list_any (λ a. is_dotted w a.label) u.assertions

-- n has the L of the label, where it is L.k, and what m has
abbrev pub FindsTrunkToo : HashMap (Vec ℕ Global) (Unit {0}) RandomState → List ℕ → HashMap (Vec ℕ Global) (Unit {0}) RandomState → Type 0
FindsTrunkToo m label n =
    (w : List ℕ) → is_some (get_by (λ k. bytes_eq w k.items) n) ≡ (is_dotted w label || is_some (get_by (λ k. bytes_eq w k.items) m))
