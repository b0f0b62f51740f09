-- The nodes on a stack are there, while labels take as many entries wherever they stand.
use Rattle.std.proofs.Common.{◌≡◌, ◌<◌, ◌≤◌, ℕ, Bool, true, false, List, [], ◌∷◌, ◌++◌, length, map, take, drop, refl, sym, ap, subst, inr, arith}
use Rattle.std.specs.Prelude.{Contains, Result, Ok, Err, IfOk}
use Rattle.std.specs.List.{AllByRecursion}
use Rattle.std.proofs.lemmas.List.Elements.{All-contains, All-push, All-weaker, All-from_recursion, recursion_from_All}
use Rattle.std.proofs.lemmas.List.{take-append-drop, length-map}
use Rattle.mmsyntax.specs.declared.limits.TheConstants.{MOST_STEPS}
use Rattle.mmtext.specs.Words.{Word}
use Rattle.source.specs.Scopes.{Hypothesis, label_of, Scope}
use Rattle.taking.specs.Walks.{arranged, picked}
use Rattle.sourcewriting.specs.declared.listing.Names.{Names}
use Rattle.sourcewriting.specs.declared.shared.CountedLabel.{CountedLabel}
use Rattle.sourcewriting.specs.declared.shared.Shared.{Shared}
use Rattle.sourcewriting.specs.Counting.{Takes}
use Rattle.sourcewriting.specs.Leaving.{CanBeCounted}
use Rattle.sourcewriting.specs.Lettered.{CanBeLettered}
use Rattle.sourcewriting.specs.Nodes.{AreNodes, AreFew, AreThere, IsTakenAlike}
use Rattle.sourcewriting.specs.Taking.{AllTake}
use Rattle.sourcewriting.proofs.MarkedProofs.{each}

-- a label takes as many as it did
pub taken_alike : (s : Scope) (m : Names) (hs : List Hypothesis) (shared : Shared) → AllTake s m hs shared → CanBeCounted (Takes s m hs) hs
    → (label : Word) (n : ℕ) → Takes s m hs label n → IsTakenAlike shared.words.items label n
taken_alike s m hs shared all can label n takes = λ c has is.
    let taken = All-contains (λ (c : CountedLabel). Takes s m hs c.label.now c.takes) shared.words.items c
    (each (λ (p : Word × ℕ). Takes s m hs p.0 p.1) shared.words.items all) has in
    can.alike label c.takes n (subst (λ w. Takes s m hs w c.takes) is taken) takes

-- what is so in any case
pub if_any : {T E P : Type 0} (r : Result T E) → P → IfOk r (λ _. P)
if_any (Ok x) p = p
if_any (Err e) p = tt

front_of : (P : ℕ → Type 0) (xs ys : List ℕ) → AllByRecursion P (xs ++ ys) → AllByRecursion P xs
front_of P [] ys h = tt
front_of P (x ∷ xs) ys h = (h.0, front_of P xs ys h.1)

back_of : (P : ℕ → Type 0) (xs ys : List ℕ) → AllByRecursion P (xs ++ ys) → AllByRecursion P ys
back_of P [] ys h = h
back_of P (x ∷ xs) ys h = back_of P xs ys h.1

all_picked : (P : ℕ → Type 0) (kinds : List Bool) (xs : List ℕ) → length xs ≡ length kinds → AllByRecursion P (picked true kinds xs)
    → AllByRecursion P (picked false kinds xs) → AllByRecursion P xs
all_picked P kinds [] e floats premises = tt
all_picked P [] (x ∷ xs) e floats premises = absurd (omega arith)
all_picked P (true ∷ kinds) (x ∷ xs) e floats premises = (floats.0, all_picked P kinds xs (omega arith) floats.1 premises)
all_picked P (false ∷ kinds) (x ∷ xs) e floats premises = (premises.0, all_picked P kinds xs (omega arith) floats premises.1)

-- arguments in the order of the source are on the stack
pub arguments_there : (s : Shared) (kinds : List Bool) (made stack : List ℕ) (first : ℕ) → length made ≡ length kinds
    → arranged kinds made ≡ drop first stack → AreThere s stack → AreThere s made
arguments_there s kinds made stack first many are there =
    let P : ℕ → Type 0 = λ a. a < length s.nodes.items in
    let all = recursion_from_All P stack there in
    let rest = back_of P (take first stack) (drop first stack) (subst (AllByRecursion P) (sym (take-append-drop first stack)) all) in
    let both = subst (AllByRecursion P) (sym are) rest in
    All-from_recursion P made
    (all_picked P kinds made many (front_of P (picked true kinds made) (picked false kinds made) both)
    (back_of P (picked true kinds made) (picked false kinds made) both))

-- a node goes on it, behind what was there in front
pub stack_then : (s t : Shared) (old front new : List ℕ) (first node : ℕ) → length s.nodes.items ≤ length t.nodes.items → AreThere s old
    → node < length t.nodes.items → front ≡ take first old → new ≡ front ++ node ∷ [] → AreThere t new
stack_then s t old front new first node more there low is put =
    let P : ℕ → Type 0 = λ a. a < length s.nodes.items in
    let Q : ℕ → Type 0 = λ a. a < length t.nodes.items in
    let all = recursion_from_All P old there in
    let some = front_of P (take first old) (drop first old) (subst (AllByRecursion P) (sym (take-append-drop first old)) all) in
    let was = All-weaker P Q (λ a h. omega (arith, h, more)) front
    (All-from_recursion P front (subst (AllByRecursion P) (sym is) some)) in
    subst (AreThere t) (sym put) (All-push Q front node was low)

-- the node of a proof that can be compressed can be put in letters
pub lettered : (s : Scope) (m : Names) (hs : List Hypothesis) (none shared : Shared) (mandatory : List Word) (root : ℕ)
    → mandatory ≡ map label_of hs → AllTake s m hs shared → CanBeCounted (Takes s m hs) hs → none.words.items ≡ [] → none.nodes.items ≡ []
    → AreFew MOST_STEPS none shared → AreNodes shared → root < length shared.nodes.items → CanBeLettered shared mandatory root
lettered s m hs none shared mandatory root are all can words nodes few sound there = record {
  nodes = sound;
  there = there;
  untaken = λ c has mandatory-has.
      taken_alike s m hs shared all can c.label.now 0
      (inr (record { stands = inr (subst (λ ws. Contains ws c.label.now) are mandatory-has); none = refl })) c has refl;
  few =
      let long = ap length are in
      let long' = length-map hs label_of in
      omega (arith, long, long', can.few, few.words, few.nodes, ap length words, ap length nodes);
}
