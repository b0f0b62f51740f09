-- What is known of a source by its items as they were found.
use Rattle.std.proofs.Common.{◌≡◌, ◌∙◌, ℕ, zero, suc, ◌<◌, ◌≤◌, List, [], ◌∷◌, ◌++◌, Option, Some, map, length, take, drop}
use Rattle.std.proofs.Common.{Bool, true, false, cond, refl, sym, ap, subst, arith, ◌+◌, ◌-◌, get_or, append-nil, inl, inr}
use Rattle.std.specs.Prelude.{◌==◌, not, slice_get, slice_range, find, is_some, IsTrue}
use Rattle.std.specs.Option.{option_map}
use Rattle.std.specs.Str.{bytes_eq}
use Rattle.std.specs.List.{flat_map}
use Rattle.std.proofs.lemmas.Grind.{flat_map-append}
use Rattle.std.proofs.lemmas.Bool.{cases_Bool, false≢true}
use Rattle.std.proofs.lemmas.Bool.Decides.{nat_tests}
use Rattle.std.proofs.lemmas.List.{nil_from_length, length-map, take-map, drop-map, take_more, take-append-drop}
use Rattle.std.proofs.lemmas.List.Folds.{flat_map-map}
use Rattle.std.specs.Borrow.{Bor}
use Rattle.mmtext.specs.Words.{Word}
use Rattle.mmtext.proofs.Marks.{same_word}
use Rattle.source.specs.Scopes.{is_in}
use Rattle.giving.specs.Staying.{Change}
use Rattle.giving.proofs.Finding.{text_found}
use Rattle.items.specs.declared.reading.Kind.{Kind}
use Rattle.items.specs.declared.reading.Kind.TheVariants.{Comment, Opening, Closing, Assertion, Other}
use Rattle.items.specs.declared.reading.Item.{Item as Found}
use Rattle.items.specs.Items.{Item, label_of}
use Rattle.items.specs.Reading.{IsOfKind, AreFound}
use Rattle.items.proofs.PutThen.{unlabelled}
use Rattle.leaving.specs.declared.part.Part.{Part}
use Rattle.leaving.specs.Leaving.{open_behind}
use Rattle.arranging.specs.declared.coming.Coming.{Coming}
use Rattle.arranging.specs.Parts.{Edited, parts, unit_of, part_of, known_labels}
use Rattle.arranging.specs.Groups.{IsWritten}
use Rattle.arranging.specs.Arranged.{labels_asserted, AsItStood, IsParted, IsFrom, label_in_source}
use Rattle.arranging.specs.Arranged.{ends_described, IsDescription}
use Rattle.arranging.specs.Sections.{IsUnder}
use Rattle.arranging.specs.Places.{IsFree, IsWhole, MayCome}

-- ---- parts of lists

pub range_map : {A B : Type 0} (f : A → B) (xs : List A) (a b : ℕ) → map f (slice_range xs a b) ≡ slice_range (map f xs) a b
range_map f xs a b = sym (take-map f (b - a) (drop a xs)) ∙ ap (take (b - a)) (sym (drop-map f a xs))

-- ---- labels

abbrev pub label_by : Kind → List Word
label_by (Assertion label) = label.now ∷ []
label_by _ = []

abbrev pub label_in : Found → List Word
label_in f = label_by f.kind

pub has_label : (k : Kind) (x : Item) → IsOfKind k x → label_of x ≡ label_by k
has_label Comment x is = unlabelled Comment (λ label e. cc) x is
has_label Opening x is = unlabelled Opening (λ label e. cc) x is
has_label Closing x is = unlabelled Closing (λ label e. cc) x is
has_label (Assertion label) x is = is.1
has_label Other x is = is.1

same_labels : (text : List ℕ) (at : ℕ) (fs : List Found) (xs : List Item) → AreFound text at fs xs → map label_of xs ≡ map label_in fs
same_labels text at [] [] h = refl
same_labels text at [] (x ∷ xs) h = absurd h
same_labels text at (f ∷ fs) [] h = absurd h
same_labels text at (f ∷ fs) (x ∷ xs) h =
    let first = has_label f.kind x h.1 in
    let others = same_labels text f.end fs xs h.4 in cc

flat : {A : Type 0} (f : A → List Word) (xs : List A) → flat_map f xs ≡ flat_map (λ ws. ws) (map f xs)
flat f xs = sym (flat_map-map (λ ws. ws) f xs)

pub labels_between : (text : List ℕ) (at : ℕ) (fs : List Found) (xs : List Item) (a b : ℕ) → AreFound text at fs xs
    → labels_asserted (slice_range xs a b) ≡ flat_map label_in (slice_range fs a b)
labels_between text at fs xs a b h =
    flat label_of (slice_range xs a b)
    ∙ (ap (λ ls. flat_map (λ ws. ws) ls) (range_map label_of xs a b
    ∙ (ap (λ ls. slice_range ls a b) (same_labels text at fs xs h) ∙ sym (range_map label_in fs a b)))
    ∙ sym (flat label_in (slice_range fs a b)))

pub unlabelled_kind : (k : Kind) → ((label : Bor (List ℕ)) → k ≡ Assertion label → ⊥) → label_by k ≡ []
unlabelled_kind Comment not_one = refl
unlabelled_kind Opening not_one = refl
unlabelled_kind Closing not_one = refl
unlabelled_kind (Assertion label) not_one = absurd (not_one label refl)
unlabelled_kind Other not_one = refl

module _ (fs : List Found) (i : ℕ) (f : Found) (lt : i < length fs) where
  pub labels_more : flat_map label_in (take (i + 1) fs) ≡ flat_map label_in (take i fs) ++ label_in (get_or fs i f)
  labels_more =
      ap (λ gs. flat_map label_in gs) (take_more fs i f lt)
      ∙ (flat_map-append label_in (take i fs) (get_or fs i f ∷ [])
      ∙ ap (λ ls. flat_map label_in (take i fs) ++ ls) (append-nil (label_in (get_or fs i f))))

  module _ (label : Word) (was : Bool) (before : flat_map label_in (take i fs) ≡ cond was (label ∷ []) []) where
    pub alone_now : (other : Bor (List ℕ)) → was ≡ false → (get_or fs i f).kind ≡ Assertion other → other.now ≡ label
        → flat_map label_in (take (i + 1) fs) ≡ label ∷ []
    alone_now other none is same =
        labels_more
        ∙ (ap (λ ls. ls ++ label_in (get_or fs i f)) before
        ∙ (ap (λ b. cond b (label ∷ []) [] ++ label_in (get_or fs i f)) none ∙ (ap label_by is ∙ ap (λ w. w ∷ []) same)))

    pub alone_still : ((other : Bor (List ℕ)) → (get_or fs i f).kind ≡ Assertion other → ⊥)
        → flat_map label_in (take (i + 1) fs) ≡ cond was (label ∷ []) []
    alone_still not_one =
        labels_more
        ∙ (ap (λ ls. flat_map label_in (take i fs) ++ ls) (unlabelled_kind (get_or fs i f).kind not_one)
        ∙ (append-nil (flat_map label_in (take i fs)) ∙ before))

-- ---- one of them

pub found_at : (text : List ℕ) (at : ℕ) (fs : List Found) (xs : List Item) (k : ℕ) (f : Found) → AreFound text at fs xs
    → slice_get fs k ≡ Some f → (x : Item) × (slice_get xs k ≡ Some x) × IsOfKind f.kind x
found_at text at [] [] k f h is = absurd cc
found_at text at [] (x ∷ xs) k f h is = absurd h
found_at text at (g ∷ fs) [] k f h is = absurd h
found_at text at (g ∷ fs) (x ∷ xs) zero f h is = let same : g ≡ f = cc in (x, refl, subst (λ i. IsOfKind i.kind x) same h.1)
found_at text at (g ∷ fs) (x ∷ xs) (suc k) f h is = found_at text g.end fs xs k f h.4 is

-- ---- parts

module _ (e : Edited) (old : List Item) (ps : List Part) (are : ps ≡ parts e old) where
  pub parts_up_to : (k : ℕ) → take k ps ≡ parts e (take k old)
  parts_up_to k = ap (take k) are ∙ take-map (part_of e.gone e.moving) k old

  front_is : (k : ℕ) → slice_range ps 0 k ≡ parts e (take k old)
  front_is k = let same : k - 0 ≡ k = omega arith in ap (λ n. take n ps) same ∙ parts_up_to k

  pub parts_between : (a b : ℕ) → slice_range ps a b ≡ parts e (slice_range old a b)
  parts_between a b = ap (λ qs. slice_range qs a b) are ∙ sym (range_map (part_of e.gone e.moving) old a b)

  pub free_there : (place : ℕ) (before : List Part) → place ≤ length ps → before ≡ slice_range ps 0 place
      → open_behind 0 (take place ps) ≡ Some 0 → ends_described before ≡ false → IsFree e old place
  free_there place before within is outermost apart = record {
    within = omega (arith, within, ap length are, length-map old (part_of e.gone e.moving));
    outermost = subst (λ qs. open_behind 0 qs ≡ Some 0) (parts_up_to place) outermost;
    apart = subst (λ qs. ends_described qs ≡ false) (is ∙ front_is place) apart;
  }

  module _ (c : Coming) (label : Word) (before unit : List Part) (front : before ≡ slice_range ps 0 c.first)
      (between : unit ≡ slice_range ps c.first c.end) where
    both_there : (P : List Part → List Part → Type 0) → P before unit → P (parts e (take c.first old)) (parts e (unit_of old c))
    both_there P is =
        subst (λ qs. P qs (parts e (unit_of old c))) (front ∙ front_is c.first)
        (subst (P before) (between ∙ parts_between c.first c.end) is)

    pub stood : IsTrue (is_in e.moved label) → labels_asserted (unit_of old c) ≡ label ∷ [] → open_behind 0 (take c.first ps) ≡ Some 0
        → c.front.now ≡ [] → c.back.now ≡ [] → IsWhole before unit → AsItStood e old label c
    stood moved alone outermost no_front no_back whole = record {
      moved = moved;
      alone = alone;
      outermost = subst (λ qs. open_behind 0 qs ≡ Some 0) (parts_up_to c.first) outermost;
      whole = both_there IsWhole whole;
      plain = (no_front, no_back);
    }

    pub parted : (text : List ℕ) (items : List Found) (f : Found) (other : Bor (List ℕ)) → AreFound text 0 items old
        → slice_get items c.end ≡ Some f → f.kind ≡ Assertion other → other.now ≡ label → IsDescription before unit
        → (open_behind 0 (take c.end ps) ≡ Some 0 → ⊥) → IsWritten c → IsParted e old label c
    parted text items f other found at is same described inside anew =
        let here = found_at text 0 items old c.end f found at in
        let kind : IsOfKind (Assertion other) here.0 = subst (λ k. IsOfKind k here.0) is here.2 in record {
          item = here.0;
          stands = here.1;
          labelled = kind.1 ∙ ap (λ w. w ∷ []) same;
          described = both_there IsDescription described;
          inside = subst (λ qs. open_behind 0 qs ≡ Some 0 → ⊥) (parts_up_to c.end) inside;
          written = anew;
        }

pub comes_free : (e : Edited) (old : List Item) (c : Coming) → IsFree e old c.place → IsFrom e old (label_in_source c) c
    → IsUnder e (take c.place old) c (drop c.place old) → MayCome e old c
comes_free e old c free from under = (
  free.within,
  record {
    outermost = free.outermost;
    apart = free.apart;
    from = subst (λ xs. IsFrom e xs (label_in_source c) c) (sym (take-append-drop c.place old)) from;
    under = under;
  },
)

-- ---- look-ups

pub is_listed : (ws : List Word) (cs : List Change) (w : Word) (r : Option (Bor (List ℕ))) (b : Bool) → ws ≡ known_labels cs
    → option_map (λ (w : Bor (List ℕ)). w.now) r ≡ option_map (λ (c : Change). c.1) (find (λ (c : Change). bytes_eq w c.0) cs)
    → b ≡ is_some r → IsTrue b → IsTrue (is_in ws w)
is_listed ws cs w r b are found is holds = ap (λ ls. is_in ls w) are ∙ (sym (text_found cs w r found) ∙ (sym is ∙ holds))

-- ---- tests

pub not_other : (w v : Word) → false ≡ not (bytes_eq w v) → w ≡ v
not_other w v is = elim (cases_Bool (bytes_eq w v)) [
  | inl y ↦ same_word w v y
  | inr n ↦ absurd (false≢true (is ∙ ap not n))
]

pub is_empty : (xs : List ℕ) (b : Bool) → b ≡ (length xs == 0) → b ≡ true → xs ≡ []
is_empty xs b is holds = nil_from_length xs (grind (arith, nat_tests))
