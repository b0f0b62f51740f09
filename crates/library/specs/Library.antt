-- A library: what is kept, when it is sound, where it starts, and in which order it is shown.
use Rattle.std.specs.Prelude.{◌≤◌, ◌+◌, ◌*◌, ℕ, List, [], ◌∷◌, length, map, filter, nat_lt, All, IsTrue, IsPermutation, if◌then◌else◌}
use Rattle.std.specs.List.Sorted.{IsSorted}
use Rattle.std.specs.declared.cmp.Ordering.{Ordering}
use Rattle.std.specs.Ordering.{nat_cmp, ordering_then, is_le}
use Rattle.std.specs.Cmp.Lexicographic.{slice_cmp}
use Rattle.std.specs.Str.{bytes_eq}
use Rattle.mmsyntax.specs.declared.statement.Assertion.{Assertion}
use Rattle.mmsyntax.specs.Tables.{Tables, Contents}
use Rattle.mmsyntax.specs.Layout.{IsSoundPrelude}
use Rattle.mmsyntax.specs.Assertions.{is_lawful_label, Distinct, Fits}
use Rattle.mmsyntax.specs.Dotted.{ClashNowhere}
use Rattle.derivation.specs.Derivation.{Citable, Checks}
use Rattle.derivation.specs.Databases.{frame_in}
use Rattle.library.specs.declared.library.Ranked.{Ranked}
use Rattle.mmsyntax.specs.declared.limits.TheConstants.{MOST_ASSERTIONS}

-- what is fixed throughout: the prelude, and how many assertions a library may hold
pub record Setting : Type 0 where
  pub prelude : Tables
  pub slots : ℕ

-- 1 to 4,096 slots, over a prelude that some text declares
pub record IsSetting (s : Setting) : Type 0 where
  pub sound : IsSoundPrelude s.prelude
  pub some : 1 ≤ s.slots
  pub few : s.slots ≤ MOST_ASSERTIONS

-- so many slots over the prelude of a database
abbrev pub setting_over : Contents → ℕ → Setting
setting_over db slots = record { prelude = db.prelude; slots = slots }

-- the highest rank
abbrev pub highest_rank : ℕ
highest_rank = 4294967295

abbrev pub label_of : Ranked → List ℕ
label_of e = e.assertion.label

-- a library is a list of assertions with ranks, in whatever order: each rank from 1 to 4,294,967,295, each label lawful, no other's, and
-- not L.k of another's L; at most as many as slots
pub record IsLibrary (s : Setting) (lib : List Ranked) : Type 0 where
  pub ranks : All (λ e. (1 ≤ e.rank) × (e.rank ≤ highest_rank)) lib
  pub lawful : All (λ e. IsTrue (is_lawful_label s.prelude (label_of e))) lib
  pub distinct : Distinct bytes_eq (map label_of lib)
  pub apart : ClashNowhere (map label_of lib)
  pub room : length lib ≤ s.slots

-- the assertions of strictly lower rank
abbrev pub lower : List Ranked → ℕ → List Assertion
lower lib rank = map (λ e. e.assertion) (filter (λ e. nat_lt e.rank rank) lib)

-- the frames that the proof of an assertion of a rank may cite: of the assertions of lower rank
abbrev pub citable : Setting → List Ranked → ℕ → Citable
citable s lib rank = frame_in s.prelude (lower lib rank)

-- a library verifies where each assertion fits, and each theorem's steps are the listing of a tree that derives its statement over
-- the assertions of lower rank (Metamath book, section 4.1.4; there, over those that stand earlier)
pub record Verifies (s : Setting) (lib : List Ranked) : Type 0 where
  pub setting : IsSetting s
  pub library : IsLibrary s lib
  pub fit : All (λ e. Fits s.prelude e.assertion) lib
  pub checks : All (λ e. Checks (citable s lib e.rank) s.prelude e.assertion) lib

-- ---- the opening

-- assertions from the k-th on: the k-th of a database has the rank 100 * k
abbrev pub ranked_from : ℕ → List Assertion → List Ranked
ranked_from k [] = []
ranked_from k (a ∷ rest) = record { rank = 100 * k; assertion = a } ∷ ranked_from (k + 1) rest

-- the library of a database
abbrev pub opening : Contents → List Ranked
opening db = ranked_from 1 db.assertions

-- ---- the order in which it is shown

-- by rank, then by the bytes of the label
abbrev pub by_rank_then_label : {A : Type 0} → (A → ℕ) → (A → List ℕ) → A → A → Ordering
by_rank_then_label rank label a b = ordering_then (nat_cmp (rank a) (rank b)) (slice_cmp nat_cmp (label a) (label b))

-- so of assertions
abbrev pub entry_cmp : Ranked → Ranked → Ordering
entry_cmp e f = by_rank_then_label (λ x. x.rank) label_of e f

abbrev pub IsInExportOrder : List Ranked → Type 0
IsInExportOrder lib = IsSorted entry_cmp lib

-- the list with one more assertion, before the first that comes behind it
abbrev pub placed : Ranked → List Ranked → List Ranked
placed e [] = e ∷ []
placed e (f ∷ fs) = if is_le (entry_cmp e f) then e ∷ f ∷ fs else f ∷ placed e fs

-- all assertions, each in its place
abbrev pub in_export_order : List Ranked → List Ranked
in_export_order [] = []
in_export_order (e ∷ es) = placed e (in_export_order es)

-- the assertions of a library in export order: the same ones, sorted
pub record ShowsInOrder (lib shown : List Ranked) : Type 0 where
  pub same : IsPermutation lib shown
  pub ordered : IsInExportOrder shown

-- a library as it is shown, with its setting
pub record Listed : Type 0 where
  pub setting : Setting
  pub entries : List Ranked

-- the database that is shown: the prelude, and the assertions in their order
abbrev pub shown_database : Listed → Contents
shown_database l = record { prelude = l.setting.prelude; assertions = map (λ e. e.assertion) l.entries }
