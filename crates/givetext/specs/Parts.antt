-- Of the code's inside, apart from the rules: what is known of a source with edits before it is printed.
use Rattle.std.specs.Prelude.{◌≡◌, ◌≢◌, ◌<◌, ◌⊎◌, ◌||◌, ℕ, Bool, false, List, map, All, Some, IsTrue, slice_get}
use Rattle.std.specs.Borrow.{Bor}
use Rattle.std.specs.Str.{bytes_eq}
use Rattle.std.specs.HashMap.{HashMap, get_by}
use Rattle.std.specs.declared.random_state.RandomState.{RandomState}
use Rattle.mmtext.specs.Words.{Word}
use Rattle.source.specs.Scopes.{Scope, Assertion, is_in}
use Rattle.source.specs.Faults.{FaultySource}
use Rattle.taking.specs.Reasons.{Choice}
use Rattle.giving.specs.Staying.{Change, changed, others}
use Rattle.items.specs.declared.reading.Item.{Item as Found}
use Rattle.items.specs.declared.reading.Kind.TheVariants.{Assertion as IsAssertion}
use Rattle.checking.specs.Checks.{IsReplayFault}
use Rattle.sourceediting.specs.Refusals.{names}
use Rattle.sourceediting.specs.declared.refusal.Refusal.{Refusal as Unwritten}
use Rattle.choosing.specs.declared.wish.Wish.{Wish}
use Rattle.secondlook.specs.Differing.{IsUntaken}
use Rattle.givetext.specs.Causes.{known_of, IsFollowed, IsJustified, IsNotTaken}
use Rattle.givetext.specs.declared.refusal.Refusal.{Refusal}
use Rattle.givetext.specs.declared.refusal.Refusal.TheVariants as refusal
use Rattle.library.specs.declared.history.Entry.{Entry}
use Rattle.library.specs.Library.{Listed}
use Rattle.intake.specs.declared.taken.Taken.{Taken}
use Rattle.intake.specs.Intakes.{axioms_of}
use Rattle.comments.specs.Kept.{AreKept, AreLost}
use Rattle.sourceediting.specs.Following.{Followed, Following, all_commands, behind_all, opening, changes_of, label_then, own_flags}
use Rattle.sourceediting.specs.Following.{names_none}
use Rattle.secondlook.specs.Looked.{IsLookedAt}
use Rattle.sourceediting.specs.Reproved.{AreOtherProofs}
use Rattle.givetext.specs.Given.{edition}
use Rattle.sourceediting.specs.Written.{IsWrittenAnew}

-- it is the source with the edits of a history over a library that was taken of it by a choice, and was looked at
pub record IsEdited (source : List ℕ) (old : Scope) (choice : Choice) (taken : Taken) (entries : List Entry) (edited : Listed)
    (out : List ℕ)
    : Type 0 where
  pub followed : Following
  pub follows : followed ≡ behind_all (all_commands entries) (opening old choice taken.database)
  pub uncited : All (λ x. IsTrue (names_none followed.gone x.proof)) (others (own_flags choice (axioms_of taken) old) old.assertions)
  pub written : IsWrittenAnew (all_commands entries) followed.living followed.gone
      (AreOtherProofs source old (edition taken edited) followed.living)
      (changes_of followed) source out
  pub comments : AreKept (changes_of followed) followed.gone source out
  pub looked : IsLookedAt old out (changes_of followed) (own_flags choice (axioms_of taken) old) (map label_then followed.living) edited

-- ---- what single functions tell

-- a text isn't read
abbrev pub IsSourceRefusal : List ℕ → Refusal → Type 0
IsSourceRefusal text (refusal.Source fault) = FaultySource text fault
IsSourceRefusal text refusal.NoMemory = Unit {0}
IsSourceRefusal text _ = ⊥

-- nothing is taken of a source by a wish
abbrev pub IsUntakenBy : Scope → Wish → Refusal → Type 0
IsUntakenBy s w refusal.NotTaken = IsUntaken s w
IsUntakenBy s w refusal.NoMemory = Unit {0}
IsUntakenBy s w _ = ⊥

-- another library is there
abbrev pub IsTakingRefusal : List ℕ → Scope → List ℕ → Refusal → Type 0
IsTakingRefusal source s library refusal.NotTaken = IsNotTaken source s library
IsTakingRefusal source s library refusal.NoMemory = Unit {0}
IsTakingRefusal source s library _ = ⊥

-- a history isn't done again
abbrev pub IsReplayRefusal : List ℕ → List ℕ → Refusal → Type 0
IsReplayRefusal library history (refusal.Replay fault) = IsReplayFault library history fault
IsReplayRefusal library history refusal.NoMemory = Unit {0}
IsReplayRefusal library history _ = ⊥

-- a comment is lost
abbrev pub IsLoss : List Change → List Word → List ℕ → List ℕ → Refusal → Type 0
IsLoss cs gone source out refusal.CommentLost = AreLost cs gone source out
IsLoss cs gone source out refusal.NoMemory = Unit {0}
IsLoss cs gone source out _ = ⊥

-- edits can't be written
abbrev pub IsEditsRefusal : Unwritten → Refusal → Type 0
IsEditsRefusal why told = (told ≡ refusal.NoMemory) ⊎ (told ≡ refusal.Edits why)

-- what stops a history that was done again over a library taken by a choice; of want of memory nothing is known
pub record IsStopped (source : List ℕ) (old : Scope) (choice : Choice) (taken : Taken) (entries : List Entry) (edited : Listed)
    (why : Refusal)
    : Type 0 where
  pub followed : Following
  pub changes : List Change
  pub own : List Bool
  pub is_followed : IsFollowed choice (known_of old taken entries edited followed changes own)
  pub cause : IsJustified (known_of old taken entries edited followed changes own) source why

-- ---- numbers of assertions

-- an item of a text is the assertion with a label
pub record IsNumber (fs : List Found) (w : Word) (n : ℕ) : Type 0 where
  pub item : Found
  pub stands : slice_get fs n ≡ Some item
  pub label : Bor (List ℕ)
  pub kind : item.kind ≡ IsAssertion label
  pub labelled : label.now ≡ w

-- so is what a map finds under a label
abbrev pub AreNumbers : List Found → HashMap (Bor (List ℕ)) ℕ RandomState → Type 0
AreNumbers fs m = (w : Word) (n : ℕ) → get_by (λ k. bytes_eq w k.now) m ≡ Some n → IsNumber fs w n

-- one assertion is in front of another
pub record AreInOrder (fs : List Found) (first second : Word) : Type 0 where
  pub place : ℕ
  pub behind : ℕ
  pub later : place < behind
  pub is_first : IsNumber fs first place
  pub is_second : IsNumber fs second behind

-- the assertion names a label whose assertion stands behind it then
abbrev pub NamesLater : List Change → List Found → Word → Assertion → Type 0
NamesLater cs fs w x = IsTrue (names w x.proof) × AreInOrder fs (changed cs x.label) (changed cs w)

-- an assertion gets a label that it doesn't have in the source, and that is a name there, of something that keeps it
pub record TakesName (s : Scope) (f : Followed) (changes gone : List Change) : Type 0 where
  pub other : f.source ≢ Some (label_then f)
  pub named : IsTrue (is_in s.symbols (label_then f) || is_in s.labels (label_then f))
  pub unchanged : is_in (map (λ c. c.0) changes) (label_then f) ≡ false
  pub stays : is_in (map (λ c. c.0) gone) (label_then f) ≡ false
