-- Theorems whose proofs are too long: what is taken of a source says the same whatever is taken as an axiom, and so has the same faults.
use Rattle.std.proofs.Common.{◌≡◌, ◌<◌, ℕ, suc, zero, Bool, true, false, List, [], ◌∷◌, ◌++◌, ◌-◌, length, map, take, set, refl, sym, ap}
use Rattle.std.proofs.Common.{subst, ◌∙◌, arith, inl, inr, append_assoc, append-nil}
use mathlib.Core.Path.{ap₂, fun_ext}
use mathlib.Core.Bool.{not}
use Rattle.std.specs.Prelude.{Option, Some, None, slice_get, filter, replicate, if◌then◌else◌, is_some}
use Rattle.std.specs.List.{list_any}
use Rattle.std.specs.Option.{option_map}
use Rattle.std.specs.Str.{bytes_eq}
use Rattle.std.proofs.lemmas.Bool.{cases_Bool, cond-true, cond-false}
use Rattle.std.proofs.lemmas.List.{take-map, length-map}
use Rattle.std.proofs.lemmas.List.Elements.{recursion_from_All, All-from_recursion}
use Rattle.std.proofs.lemmas.Map.Keys.{any_passes_from_place}
use Rattle.std.proofs.lemmas.Option.{same_Some, slice_get-map}
use Rattle.mmtext.specs.Words.{Word}
use Rattle.mmsyntax.specs.declared.statement.Kind.TheVariants.{Axiom, Theorem}
use Rattle.mmsyntax.specs.declared.statement.Assertion.{Assertion as Unit'}
use Rattle.mmsyntax.specs.Tables.{Tables, Contents, place_of}
use Rattle.mmsyntax.proofs.Names.{bytes_eq-same}
use Rattle.mmsyntax.proofs.Distinct.{any-map, is_some-place_of}
use Rattle.derivation.specs.declared.fault.ProofFaultKind.TheVariants as kind
use Rattle.derivation.specs.Derivation.{Citable}
use Rattle.derivation.specs.declared.fault.ProofFault.{ProofFault}
use Rattle.derivation.specs.Databases.{frame_in, HasFaultAt, IsFirstFault}
use Rattle.derivation.specs.Faults.{HasProofFault}
use Rattle.source.specs.Statements.{Proof}
use Rattle.source.specs.Scopes.{Assertion, Scope, is_in}
use Rattle.source.specs.Proofs.{Tree, denoted, is_unfinished}
use Rattle.source.specs.Whole.{IsWhole}
use Rattle.taking.specs.declared.reason.Reason.{Reason}
use Rattle.taking.specs.declared.reason.Reason.TheVariants.{TooLong, InFront, CitesUnchosen, LongExpression}
use Rattle.taking.specs.Names.{Map}
use Rattle.taking.specs.Says.{SaysSame}
use Rattle.taking.specs.Listings.{IsListed}
use Rattle.taking.specs.Reasons.{Choice, reason, reason_of, reason_of_finished, reason_of_tree, cites_left_out}
use Rattle.source.specs.Flags.{kept}
use Rattle.taking.specs.Taken.{HasProof, IsTaken, AreTaken, AreTakenFrom}
use Rattle.taking.proofs.LongListings.{unfinished_or}
use Rattle.choosing.specs.Choices.{IsChoice, IsChosen, labels_of}
use Rattle.choosing.specs.declared.wish.Wish.{Wish}
use Rattle.choosing.specs.declared.wish.Wish.TheVariants as wish
use Rattle.choosing.specs.declared.wish.Selection.{Selection}
use Rattle.choosing.proofs.Going.{unmarked_all}
use Rattle.choosing.proofs.Marked.{found_at, marked_found}
use Rattle.sites.specs.Sites.{Sited, AreSites}
use Rattle.intake.specs.declared.rounds.Round.{Round}
use Rattle.intake.specs.declared.rounds.Round.TheVariants as round
use Rattle.intake.specs.Intakes.{HasLongProof, unproved}
use Rattle.intake.specs.Parts.{AreChosen, IsLongAt, IsLongRoundOf}
use Rattle.intake.proofs.Libraries.{chosen_kept}

-- ---- what is taken says the same, whatever is taken as an axiom

same_said : (m : Map) (t : Tables) (x : Assertion) (a b : Unit') → SaysSame m t x a → SaysSame m t x b → unproved a ≡ unproved b
same_said m t x a b h k =
    let labels : a.label ≡ b.label = same_Some a.label b.label (sym h.label ∙ k.label) in
    let pairs : a.pairs ≡ b.pairs = sym h.pairs ∙ k.pairs in
    let hyps : a.hyps ≡ b.hyps = same_Some a.hyps b.hyps (sym h.hyps ∙ k.hyps) in
    let statements : a.statement ≡ b.statement = same_Some a.statement b.statement (sym h.statement ∙ k.statement) in
    λ i. record { label = labels i; kind = Axiom; pairs = pairs i; hyps = hyps i; statement = statements i; proof = [] }

same_from : (flag : Bool) (P Q : Unit' → Type 0) (R S : List Unit' → Type 0) → ((a b : Unit') → P a → Q b → unproved a ≡ unproved b)
    → ((as' bs : List Unit') → R as' → S bs → map unproved as' ≡ map unproved bs) → (as' bs : List Unit') → AreTakenFrom flag P R as'
    → AreTakenFrom flag Q S bs → map unproved as' ≡ map unproved bs
same_from true P Q R S one rest as' bs h k =
    ap (map unproved) h.2
    ∙ ap₂ (λ (a : Unit') (later : List Unit'). a ∷ later) (one h.0 k.0 h.3 k.3) (rest h.1 k.1 h.4 k.4)
    ∙ sym (ap (map unproved) k.2)
same_from false P Q R S one rest as' bs h k = rest as' bs h k

pub all_say_same : (m : Map) (t : Tables) (c : Choice) (ls ks : List Word) (earlier xs : List Assertion) (as' bs : List Unit')
    → AreTaken m t (record c { long = ls }) earlier xs as' → AreTaken m t (record c { long = ks }) earlier xs bs
    → map unproved as' ≡ map unproved bs
all_say_same m t c ls ks earlier [] as' bs h k = ap (map unproved) (h ∙ sym k)
all_say_same m t c ls ks earlier (x ∷ xs) as' bs h k =
    same_from (is_in c.chosen x.label) (IsTaken m t (record c { long = ls }) earlier x) (IsTaken m t (record c { long = ks }) earlier x)
    (AreTaken m t (record c { long = ls }) (earlier ++ x ∷ []) xs) (AreTaken m t (record c { long = ks }) (earlier ++ x ∷ []) xs)
    (λ a b p q. same_said m t x a b p.0 q.0) (all_say_same m t c ls ks (earlier ++ x ∷ []) xs) as' bs h k

-- ---- what may be cited is the same

same_else : {A : Type 0} (b : Bool) (x y z : A) → y ≡ z → (if b then x else y) ≡ (if b then x else z)
same_else b x y z e = ap (λ w. if b then x else w) e

said_frames : (t : Tables) (as' : List Unit') (label : Word) → frame_in t (map unproved as') label ≡ frame_in t as' label
said_frames t [] label = refl
said_frames t (a ∷ as') label = same_else (bytes_eq a.label label) _ _ _ (said_frames t as' label)

pub citable_same : (t : Tables) (as' bs : List Unit') (k : ℕ) → map unproved as' ≡ map unproved bs
    → frame_in t (take k as') ≡ frame_in t (take k bs)
citable_same t as' bs k same =
    let ours : frame_in t (map unproved (take k as')) ≡ frame_in t (take k as') = fun_ext (said_frames t (take k as')) in
    let theirs : frame_in t (map unproved (take k bs)) ≡ frame_in t (take k bs) = fun_ext (said_frames t (take k bs)) in
    sym ours
    ∙ ap (frame_in t) (sym (take-map unproved k as') ∙ ap (take k) same ∙ take-map unproved k bs)
    ∙ theirs

said_at : (as' bs : List Unit') (k : ℕ) → map unproved as' ≡ map unproved bs
    → option_map unproved (slice_get as' k) ≡ option_map unproved (slice_get bs k)
said_at as' bs k same =
    sym (slice_get-map unproved as' k) ∙ ap (λ cs. slice_get cs k) same ∙ slice_get-map unproved bs k

-- ---- an assertion of what is taken

-- it is taken of one of the source
pub record Origin (m : Map) (t : Tables) (c : Choice) (earlier xs : List Assertion) (k : ℕ) (a : Unit') : Type 0 where
  pub place : ℕ
  pub x : Assertion
  pub stands : slice_get xs place ≡ Some x
  pub is_chosen : is_in c.chosen x.label ≡ true
  pub taken : IsTaken m t c (earlier ++ take place xs) x a
  pub labelled : slice_get (map (λ y. y.label) (filter (λ y. is_in c.chosen y.label) xs)) k ≡ Some x.label

module _ (m : Map) (t : Tables) (c : Choice) (earlier : List Assertion) (x : Assertion) (xs : List Assertion) (a : Unit') where
  kept_labels : List Assertion → List Word
  kept_labels ys = map (λ y. y.label) (filter (λ y. is_in c.chosen y.label) ys)

  labels_kept : is_in c.chosen x.label ≡ true → kept_labels (x ∷ xs) ≡ x.label ∷ kept_labels xs
  unfolding kept_labels
  labels_kept takes =
      ap (map (λ (y : Assertion). y.label)) (cond-true (is_in c.chosen x.label) (x ∷ filter (λ y. is_in c.chosen y.label) xs) _ takes)

  labels_left : is_in c.chosen x.label ≡ false → kept_labels (x ∷ xs) ≡ kept_labels xs
  unfolding kept_labels
  labels_left leaves =
      ap (map (λ (y : Assertion). y.label)) (cond-false (is_in c.chosen x.label) (x ∷ filter (λ y. is_in c.chosen y.label) xs) _ leaves)

  here : is_in c.chosen x.label ≡ true → IsTaken m t c earlier x a → Origin m t c earlier (x ∷ xs) 0 a
  unfolding kept_labels
  here takes taken = record {
    place = 0;
    x = x;
    stands = refl;
    is_chosen = takes;
    taken = subst (λ (es : List Assertion). IsTaken m t c es x a) (sym (append-nil earlier)) taken;
    labelled = ap (λ ls. slice_get ls 0) (labels_kept takes);
  }

  module _ (k : ℕ) (o : Origin m t c (earlier ++ x ∷ []) xs k a) where
    moved : IsTaken m t c (earlier ++ take (suc o.place) (x ∷ xs)) o.x a
    moved = subst (λ (es : List Assertion). IsTaken m t c es o.x a) (append_assoc earlier (x ∷ []) (take o.place xs)) o.taken

    behind_kept : is_in c.chosen x.label ≡ true → Origin m t c earlier (x ∷ xs) (suc k) a
    unfolding kept_labels
    behind_kept takes = record {
      place = suc o.place;
      x = o.x;
      stands = o.stands;
      is_chosen = o.is_chosen;
      taken = moved;
      labelled = ap (λ ls. slice_get ls (suc k)) (labels_kept takes) ∙ o.labelled;
    }

    behind_left : is_in c.chosen x.label ≡ false → Origin m t c earlier (x ∷ xs) k a
    unfolding kept_labels
    behind_left leaves = record {
      place = suc o.place;
      x = o.x;
      stands = o.stands;
      is_chosen = o.is_chosen;
      taken = moved;
      labelled = ap (λ ls. slice_get ls k) (labels_left leaves) ∙ o.labelled;
    }

pub origin_of : (m : Map) (t : Tables) (c : Choice) (earlier xs : List Assertion) (as' : List Unit') (k : ℕ) (a : Unit')
    → AreTaken m t c earlier xs as' → slice_get as' k ≡ Some a → Origin m t c earlier xs k a
origin_of m t c earlier [] as' k a h at = absurd (let none : None ≡ Some a = ap (λ bs. slice_get bs k) (sym h) ∙ at in cc)
origin_of m t c earlier (x ∷ xs) as' zero a h at =
    elim (cases_Bool (is_in c.chosen x.label)) [
      | inl takes ↦
          let own = subst (λ (b : Bool). AreTakenFrom b (IsTaken m t c earlier x) (AreTaken m t c (earlier ++ x ∷ []) xs) as') takes h in
          let same : own.0 ≡ a = same_Some own.0 a (ap (λ bs. slice_get bs 0) (sym own.2) ∙ at) in
          here m t c earlier x xs a takes (subst (IsTaken m t c earlier x) same own.3)
      | inr leaves ↦
          let later = subst (λ (b : Bool). AreTakenFrom b (IsTaken m t c earlier x) (AreTaken m t c (earlier ++ x ∷ []) xs) as') leaves h in
          behind_left m t c earlier x xs a 0 (origin_of m t c (earlier ++ x ∷ []) xs as' 0 a later at) leaves
    ]
origin_of m t c earlier (x ∷ xs) as' (suc k) a h at =
    elim (cases_Bool (is_in c.chosen x.label)) [
      | inl takes ↦
          let own = subst (λ (b : Bool). AreTakenFrom b (IsTaken m t c earlier x) (AreTaken m t c (earlier ++ x ∷ []) xs) as') takes h in
          let there : slice_get own.1 k ≡ Some a = ap (λ bs. slice_get bs (suc k)) (sym own.2) ∙ at in
          behind_kept m t c earlier x xs a k (origin_of m t c (earlier ++ x ∷ []) xs own.1 k a own.4 there) takes
      | inr leaves ↦
          let later = subst (λ (b : Bool). AreTakenFrom b (IsTaken m t c earlier x) (AreTaken m t c (earlier ++ x ∷ []) xs) as') leaves h in
          behind_left m t c earlier x xs a (suc k) (origin_of m t c (earlier ++ x ∷ []) xs as' (suc k) a later at) leaves
    ]

-- ---- a theorem of what is taken: its proof is listed, and it isn't known yet to be too long

record IsProved (m : Map) (earlier : List Assertion) (x : Assertion) (a : Unit') (p : Option Proof) (r : Option Reason) : Type 0 where
  pub proof : Proof
  pub has_proof : p ≡ Some proof
  pub no_reason : r ≡ None
  pub listed : IsListed m earlier x a

proved : (m : Map) (earlier : List Assertion) (x : Assertion) (a : Unit') (p : Option Proof) (r : Option Reason)
    → HasProof m earlier x a p r → a.kind ≡ Theorem → IsProved m earlier x a p r
proved m earlier x a None None h e = absurd (let not-so : Axiom ≡ Theorem = sym h.0 ∙ e in cc)
proved m earlier x a None (Some why) h e = absurd (let not-so : Axiom ≡ Theorem = sym h.0 ∙ e in cc)
proved m earlier x a (Some proof) (Some why) h e = absurd (let not-so : Axiom ≡ Theorem = sym h.0 ∙ e in cc)
proved m earlier x a (Some proof) None h e = record { proof = proof; has_proof = refl; no_reason = refl; listed = h.1 }

-- the last of the reasons doesn't hold where none does
none_of_all : (first second third last : Bool) → (if first then Some TooLong else (if second then Some InFront else (if third then
    Some CitesUnchosen else (if last then Some LongExpression else None)))) ≡ None → last ≡ false
none_of_all first second third false e = refl
none_of_all true second third true e = absurd cc
none_of_all false true third true e = absurd cc
none_of_all false false true true e = absurd cc
none_of_all false false false true e = absurd cc

unflagged : (c : Choice) (earlier : List Assertion) (x : Assertion) (proof : Proof) (tree : Tree) → denoted earlier x ≡ Some tree
    → reason_of c earlier x (Some proof) ≡ None → is_in c.long x.label ≡ false
unflagged c earlier x proof tree is none =
    let finished : reason_of_finished c earlier x.label (denoted earlier x) ≡ None = unfinished_or (is_unfinished proof) _ none in
    let by_tree : reason_of_tree c earlier x.label tree ≡ None = ap (reason_of_finished c earlier x.label) (sym is) ∙ finished in
    none_of_all _ (is_in c.front x.label) (cites_left_out earlier c.chosen tree) (is_in c.long x.label) by_tree

-- ---- too long a proof

-- it is so in whatever is taken of what is chosen
pub long_still : (s : Scope) (chosen : List Word) (m : Map) (t : Tables) (as' bs : List Unit') (label : Word)
    → map unproved as' ≡ map unproved bs → HasLongProof s chosen m (record { prelude = t; assertions = as' }) label
    → HasLongProof s chosen m (record { prelude = t; assertions = bs }) label
long_still s chosen m t as' bs label same h = record {
  is_chosen = h.is_chosen;
  place = h.place;
  x = h.x;
  stands = h.stands;
  labelled = h.labelled;
  taken_at = h.taken_at;
  theorem = h.theorem;
  taken = sym (said_at as' bs h.taken_at same) ∙ h.taken;
  says = h.says;
  listed = h.listed;
  step = h.step;
  fault =
      subst (λ (lib : Citable). HasProofFault lib t h.theorem (record { step = h.step; kind = kind.TooLong }))
      (citable_same t as' bs h.taken_at same) h.fault;
}

-- the proof of what is taken at a place is too long: it is that of a theorem of the source, with this label, which wasn't known to be so
pub record IsFoundLong (s : Scope) (c : Choice) (m : Map) (t : Tables) (as' : List Unit') (k : ℕ) : Type 0 where
  pub label : Word
  pub labelled : slice_get (map (λ y. y.label) (filter (λ y. is_in c.chosen y.label) s.assertions)) k ≡ Some label
  pub has : HasLongProof s c.chosen m (record { prelude = t; assertions = as' }) label
  pub new : is_in c.long label ≡ false

pub found_long : (s : Scope) (c : Choice) (m : Map) (t : Tables) (as' : List Unit') (k : ℕ) → AreTaken m t c [] s.assertions as'
    → IsLongAt (record { prelude = t; assertions = as' }) k → IsFoundLong s c m t as' k
found_long s c m t as' k taken long =
    let a : Unit' = long.1.0 in
    let o = origin_of m t c [] s.assertions as' k a taken long.1.1 in
    let p = proved m (take o.place s.assertions) o.x a o.x.proof (reason c (take o.place s.assertions) o.x) o.taken.1 long.1.2.0 in
    record {
      label = o.x.label;
      labelled = o.labelled;
      has = record {
        is_chosen = o.is_chosen;
        place = o.place;
        x = o.x;
        stands = o.stands;
        labelled = refl;
        taken_at = k;
        theorem = a;
        taken = ap (option_map unproved) long.1.1;
        says = o.taken.0;
        listed = p.listed;
        step = long.0;
        fault = long.1.2;
      };
      new =
          unflagged c (take o.place s.assertions) o.x p.proof p.listed.tree p.listed.denotes
          (ap (reason_of c (take o.place s.assertions) o.x) (sym p.has_proof) ∙ p.no_reason);
    }

-- the first fault of a library may be of this kind
pub long_first : (db : Contents) (number : ℕ) (fault : ProofFault) → IsFirstFault db number fault → fault.kind ≡ kind.TooLong
    → IsLongAt db (number - 1)
long_first db number fault first is =
    let e = first.1 in
    let same : number - 1 ≡ first.0 = omega (arith, e) in
    let own : fault ≡ record { step = fault.step; kind = kind.TooLong } = λ i. record { step = fault.step; kind = is i } in (
      fault.step,
      subst (λ (k : ℕ). HasFaultAt db k (record { step = fault.step; kind = kind.TooLong })) (sym same)
          (subst (HasFaultAt db first.0) own first.2),
    )

-- ---- rounds

-- a wish chooses the same, whatever is known of proofs
wished_again : (s : Scope) (w : Wish) (c : Choice) → IsChoice s w c → IsChoice s w (record c { long = [] })
wished_again s wish.All c e = ap (λ (d : Choice). record d { long = [] }) e
wished_again s (wish.For asked) c e = ap (λ (d : Choice). record d { long = [] }) e
wished_again s (wish.Between from to) c h = (h.0, h.1, h.2, h.3, ap (λ (d : Choice). record d { long = [] }) h.4)
wished_again s (wish.These labels axioms) c e = ap (λ (d : Choice). record d { long = [] }) e

-- before the first round no proof is known to be too long
pub chosen_first : (s : Scope) (w : Wish) (sel : Selection) (m : Map) (t : Tables) (chosen front long : List Bool) (n : ℕ)
    → IsChosen s w sel → chosen ≡ sel.chosen.items → front ≡ sel.front.items → long ≡ replicate n false → n ≡ length chosen
    → AreChosen s w m t chosen front long
chosen_first s w sel m t chosen front long n c e f g many = record {
  choice = record c.choice { long = [] };
  chooses = record { is_choice = wished_again s w c.choice c.is_choice; known = c.known; in_order = c.in_order; few = c.few };
  there = c.there;
  flags = record {
    chosen_are = c.flags.chosen_are ∙ sym e;
    front_are = c.flags.front_are ∙ sym f;
    long_are =
        unmarked_all s.assertions n
        (many ∙ ap length (e ∙ sym c.flags.chosen_are) ∙ length-map s.assertions (λ (x : Assertion). is_in c.choice.chosen x.label))
        ∙ sym g;
  };
  are_long = λ ls as' taken. All-from_recursion (HasLongProof s c.choice.chosen m (record { prelude = t; assertions = as' })) [] tt;
}

-- a flag for each assertion
pub as_many : (s : Scope) (w : Wish) (m : Map) (t : Tables) (chosen front long : List Bool) → AreChosen s w m t chosen front long
    → (length chosen ≡ length s.assertions) × (length front ≡ length s.assertions) × (length long ≡ length s.assertions)
as_many s w m t chosen front long c = (
  ap length (sym c.flags.chosen_are) ∙ length-map s.assertions (λ (x : Assertion). is_in c.choice.chosen x.label),
  ap length (sym c.flags.front_are) ∙ length-map s.assertions (λ (x : Assertion). is_in c.choice.front x.label),
  ap length (sym c.flags.long_are) ∙ length-map s.assertions (λ (x : Assertion). is_in c.choice.long x.label),
)

-- a label that is there
all_in : (ls : List Word) (k : ℕ) (l : Word) → slice_get ls k ≡ Some l → is_in ls l ≡ true
all_in ls k l at = any_passes_from_place (bytes_eq l) ls k l at (bytes_eq-same l)

-- the flag of a label, by the place of its assertion
pub flag_of : (xs : List Assertion) (ls : List Word) (flags : List Bool) (label : Word) (n : ℕ) → map (λ x. is_in ls x.label) xs ≡ flags
    → place_of (λ x. bytes_eq label x.label) xs ≡ Some n → slice_get flags n ≡ Some (is_in ls label)
flag_of xs ls flags label n are at =
    let there = found_at xs label n at in
    ap (λ fs. slice_get fs n) (sym are)
    ∙ slice_get-map (λ (x : Assertion). is_in ls x.label) xs n
    ∙ ap (option_map (λ (x : Assertion). is_in ls x.label)) there.1
    ∙ ap (λ l. Some (is_in ls l)) (sym there.2)

-- one flag fewer isn't set
pub fewer_left : (flags : List Bool) (n : ℕ) → slice_get flags n ≡ Some false
    → length (filter not (set flags n true)) < length (filter not flags)
fewer_left [] n e = absurd cc
fewer_left (f ∷ fs) zero e =
    let is : f ≡ false = same_Some f false e in
    subst (λ (b : Bool). length (filter not (set (b ∷ fs) 0 true)) < length (filter not (b ∷ fs))) (sym is) (omega arith)
fewer_left (true ∷ fs) (suc n) e = fewer_left fs n e
fewer_left (false ∷ fs) (suc n) e = let less = fewer_left fs n e in omega arith

-- ---- flags by labels

pub none_there : (ls : List Word) (k : ℕ) (l : Word) → None ≡ slice_get ls k → slice_get ls k ≡ Some l → ⊥
none_there ls k l none at = let not-so : None ≡ Some l = none ∙ at in absurd cc

pub same_item : (ls : List Word) (k : ℕ) (l other : Word) → slice_get ls k ≡ Some l → slice_get ls k ≡ Some other → l ≡ other
same_item ls k l other at there = same_Some l other (sym at ∙ there)

-- a label that is there has a place
pub unplaced : (xs : List Assertion) (l : Word) → is_in (labels_of xs) l ≡ true → place_of (λ x. bytes_eq l x.label) xs ≡ None → ⊥
unplaced xs l there none =
    let any : list_any (λ x. bytes_eq l x.label) xs ≡ true = sym (any-map (bytes_eq l) (λ (x : Assertion). x.label) xs) ∙ there in
    let not-so : is_some (place_of (λ x. bytes_eq l x.label) xs) ≡ true =
    is_some-place_of (λ (x : Assertion). bytes_eq l x.label) xs ∙ any in
    let false-so : false ≡ true = ap is_some (sym none) ∙ not-so in
    absurd cc

-- ---- from round to round

module _ (s : Scope) (w : Wish) (t : Sited) (m : Map) (tables : Tables) (chosen front long : List Bool)
    (sites : AreSites s (kept chosen s.assertions) t) (c : AreChosen s w m tables chosen front long) (place : ℕ)
    (found : IsLongRoundOf s m tables chosen front long (round.Long place)) where
  lists : List Unit'
  lists = (found c.choice c.flags).0

  lists_taken : AreTaken m tables c.choice [] s.assertions lists
  unfolding lists
  lists_taken = (found c.choice c.flags).1

  is_found : IsFoundLong s c.choice m tables lists place
  unfolding lists
  is_found = found_long s c.choice m tables lists place lists_taken (found c.choice c.flags).2

  -- its label has the place
  pub label_at : (l : Word) × (slice_get t.labels place ≡ Some l) × (is_in (labels_of s.assertions) l ≡ true)
  label_at =
      let h = is_found.has in
      let there = subst (λ (l : Word). is_in (labels_of s.assertions) l ≡ true) h.labelled
      (all_in (labels_of s.assertions) h.place h.x.label
      (slice_get-map (λ (x : Assertion). x.label) s.assertions h.place ∙ ap (option_map (λ (x : Assertion). x.label)) h.stands)) in
      let at : slice_get t.labels place ≡ Some is_found.label =
      ap (λ ls. slice_get ls place) (sites.labels
      ∙ ap (map (λ (x : Assertion). x.label)) (chosen_kept s c.choice chosen c.flags.chosen_are))
      ∙ is_found.labelled in
      (is_found.label, at, there)

  module _ (label : Word) (n : ℕ) (at : slice_get t.labels place ≡ Some label)
      (stands : place_of (λ x. bytes_eq label x.label) s.assertions ≡ Some n) where
    same_label : is_found.label ≡ label
    unfolding label_at
    same_label = same_Some is_found.label label (sym label_at.1 ∙ at)

    -- its flag wasn't set
    pub not_flagged : slice_get long n ≡ Some false
    not_flagged =
        flag_of s.assertions c.choice.long long label n c.flags.long_are stands
        ∙ ap (λ l. Some (is_in c.choice.long l)) (sym same_label)
        ∙ ap (λ b. Some b) is_found.new

    -- and now it is
    pub chosen_next : IsWhole s → AreChosen s w m tables chosen front (set long n true)
    chosen_next whole = record {
      choice = record c.choice { long = label ∷ c.choice.long };
      chooses = c.chooses;
      there = c.there;
      flags = record {
        chosen_are = c.flags.chosen_are;
        front_are = c.flags.front_are;
        long_are = marked_found s.assertions label n (is_in c.choice.long) long whole.distinct stands c.flags.long_are;
      };
      are_long =
          λ ls bs taken.
          let has : Word → Type 0 = HasLongProof s c.choice.chosen m (record { prelude = tables; assertions = bs }) in
          let same = all_say_same m tables c.choice c.choice.long ls [] s.assertions lists bs lists_taken taken in
          let new : has label =
          subst has same_label (long_still s c.choice.chosen m tables lists bs is_found.label same is_found.has) in
          All-from_recursion has (label ∷ c.choice.long) (new, recursion_from_All has c.choice.long (c.are_long ls bs taken));
    }

-- what a round tells, by what its flags and its end are
pub found_in : (s : Scope) (m : Map) (t : Tables) (chosen front flags long : List Bool) (r : Round) (place : ℕ) → flags ≡ long
    → r ≡ round.Long place → IsLongRoundOf s m t chosen front flags r → IsLongRoundOf s m t chosen front long (round.Long place)
found_in s m t chosen front flags long r place same is found =
    subst (λ (fs : List Bool). IsLongRoundOf s m t chosen front fs (round.Long place)) same
    (subst (IsLongRoundOf s m t chosen front flags) is found)
