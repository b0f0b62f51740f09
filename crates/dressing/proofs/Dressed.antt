-- Items of a source that were put as they are dressed.
use Rattle.std.proofs.Common.{◌≡◌, ◌∙◌, ℕ, Bool, true, false, cond, List, [], ◌∷◌, ◌++◌, Option, Some, None, codes, refl, sym, ap, subst, arith, All}
use Rattle.std.proofs.Common.{append-nil}
use Rattle.std.specs.Prelude.{drop}
use Rattle.std.specs.List.{flat_map, AllZip}
use Rattle.std.specs.Option.{option_map}
use Rattle.std.specs.Str.{bytes_eq}
use Rattle.std.proofs.lemmas.Grind.{flat_map-append}
use Rattle.std.proofs.lemmas.List.Elements.{All-push}
use mathlib.Core.Bool.{not}
use Rattle.giving.specs.Staying.{Change, changed}
use Rattle.items.specs.declared.reading.Item.{Item as Found}
use Rattle.items.specs.declared.reading.Kind.{Kind}
use Rattle.items.specs.declared.reading.Kind.TheVariants.{Comment, Opening, Closing, Assertion, Other}
use Rattle.items.specs.Items.{Piece, Item, bytes_of, pieces_of, label_of, IsItem, IsStatement}
use Rattle.items.specs.Machine.{IsPut}
use Rattle.items.specs.Reading.{tokens_at, Stands, IsItemAt, IsOfKind}
use Rattle.items.specs.Rewriting.{text_for}
use Rattle.items.proofs.PutThen.{is_item, unlabelled, zip_more}
use Rattle.items.proofs.Spelled.{spells_stand}
use Rattle.items.proofs.Standing.{stands_both}
use Rattle.dressing.specs.Described.{with_comment}
use Rattle.dressing.specs.Dressed.{IsDressedWith, HasDressedItems, IsDressedIn, Reads, ReadsDressed, dressed, given_for}
use Rattle.dressing.specs.Putting.{put_from}
use Rattle.dressing.specs.Relabelled.{relabelled}
use Rattle.dressing.proofs.WordByWord.{all_put, no_comment, statement_put}

-- ---- one item

pub none_given : (texts : List Change) (x : Item) → label_of x ≡ [] → given_for texts x ≡ None
none_given texts x none = ap (λ ls. option_map (λ (c : Change). c.1) (text_for texts ls)) none

module _ (proofs cs ds : List Change) (x : Item) where
  abbrev puts : Option (List ℕ) → List ℕ
  puts proof = put_from cs proof false (with_comment (given_for ds x) x)

  statement_reads : (proof : Option (List ℕ)) → IsStatement x → Reads cs (given_for ds x) proof x (puts proof)
  statement_reads None is = all_put cs (given_for ds x) false x
  statement_reads (Some text) is = statement_put cs text (given_for ds x) x is

  other_reads : label_of x ≡ [] → ReadsDressed proofs cs ds x (puts (given_for proofs x))
  other_reads none =
      subst (λ o. Reads cs (given_for ds x) o x (puts o)) (sym (none_given proofs x none)) (all_put cs (given_for ds x) false x)

  kind_reads : (k : Kind) → IsOfKind k x → ReadsDressed proofs cs ds x (puts (given_for proofs x))
  kind_reads (Assertion label) is = statement_reads (given_for proofs x) is.0
  kind_reads Comment is = other_reads (unlabelled Comment (λ label e. absurd cc) x is)
  kind_reads Opening is = other_reads (unlabelled Opening (λ label e. absurd cc) x is)
  kind_reads Closing is = other_reads (unlabelled Closing (λ label e. absurd cc) x is)
  kind_reads Other is = other_reads is.1

  pub item_put : (k : Kind) → IsOfKind k x → (comment proof : Option (List ℕ)) → comment ≡ given_for ds x → proof ≡ given_for proofs x
      → (old new : List ℕ) → new ≡ old ++ put_from cs proof false (with_comment comment x)
      → IsPut old new (ReadsDressed proofs cs ds x)
  item_put k is comment proof same other old new e = (
    puts (given_for proofs x),
    e ∙ ap (λ c. old ++ put_from cs proof false (with_comment c x)) same ∙ ap (λ o. old ++ puts o) other,
    kind_reads k is,
  )

-- ---- a whole text

abbrev pub AreDressed : List Change → List Change → List Change → List ℕ → ℕ → List ℕ → Type 0
AreDressed proofs cs ds source at out =
    (items : List Item) × (parts : List (List ℕ)) × Stands source 0 (pieces_of items) at × All IsItem items
    × AllZip (ReadsDressed proofs cs ds) items parts × (out ≡ flat_map (λ p. p) parts)

module _ (proofs cs ds : List Change) (source : List ℕ) where
  pub none_dressed : AreDressed proofs cs ds source 0 []
  none_dressed = ([], [], refl, λ k d lt. absurd (omega (arith, lt)), tt, refl)

  pub one_dressed : (at : ℕ) (i : Found) (old new : List ℕ) → AreDressed proofs cs ds source at old → (is : IsItemAt source at i)
      → IsPut old new (ReadsDressed proofs cs ds is.item) → AreDressed proofs cs ds source i.end new
  one_dressed at i old new p is put =
      let now = put.0 in
      let pieces : pieces_of (p.0 ++ is.item ∷ []) ≡ pieces_of p.0 ++ is.item =
      flat_map-append (λ x. x) p.0 (is.item ∷ []) ∙ ap (λ y. pieces_of p.0 ++ y) (append-nil is.item) in (
        p.0 ++ is.item ∷ [],
        p.1 ++ now ∷ [],
        subst (λ y. Stands source 0 y i.end) (sym pieces) (stands_both source 0 at i.end (pieces_of p.0) is.item p.2 is.stands),
        All-push IsItem p.0 is.item p.3 (is_item i.kind is.item is.kind),
        zip_more (ReadsDressed proofs cs ds) p.0 p.1 is.item now p.4 put.2,
        put.1 ∙ (ap (λ o. o ++ now) p.5
            ∙ sym (flat_map-append (λ x. x) p.1 (now ∷ []) ∙ ap (λ y. flat_map (λ x. x) p.1 ++ y) (append-nil now))),
      )

  pub all_dressed : (at : ℕ) (old out : List ℕ) → AreDressed proofs cs ds source at old → tokens_at source at ≡ []
      → out ≡ old ++ drop at source → HasDressedItems proofs cs ds source out
  all_dressed at old out p none e = record {
    items = p.0;
    rest = drop at source;
    spells = spells_stand source p.0 at p.2 none p.3;
    parts = p.1;
    each = p.4;
    text = e ∙ ap (λ o. o ++ drop at source) p.5;
  }

pub dressed_as : (ps qs cs ks ds es : List Change) (source out : List ℕ) → ps ≡ qs → cs ≡ ks → ds ≡ es
    → IsDressedWith ps cs ds source out → IsDressedWith qs ks es source out
dressed_as ps qs cs ks ds es source out p c d is =
    subst (λ xs. IsDressedWith qs ks xs source out) d
    (subst (λ xs. IsDressedWith qs xs ds source out) c (subst (λ xs. IsDressedWith xs cs ds source out) p is))

-- ---- nothing is given

unchanged_if : (b : Bool) (p : Piece) (ps : Item) → relabelled [] b ps ≡ ps
    → cond b (p ∷ relabelled [] true ps) (record p { word = changed [] p.word } ∷ relabelled [] false ps) ≡ p ∷ ps
unchanged_if true p ps e = ap (λ y. p ∷ y) e
unchanged_if false p ps e = ap (λ y. p ∷ y) e

unchanged : (is_open : Bool) (x : Item) → relabelled [] is_open x ≡ x
unchanged is_open [] = refl
unchanged true (p ∷ ps) = ap (λ y. p ∷ y) (unchanged (not (bytes_eq p.word (codes "$)"))) ps)
unchanged false (p ∷ ps) = unchanged_if (bytes_eq p.word (codes "$(")) p ps (unchanged (bytes_eq p.word (codes "$(")) ps)

as_written : (x : Item) → dressed [] None x ≡ bytes_of x
as_written x = ap bytes_of (no_comment (relabelled [] false x) ∙ unchanged false x)

nothing_for : (x : Item) → given_for [] x ≡ None
nothing_for x = elim (label_of x) as (λ ls. option_map (λ (c : Change). c.1) (text_for [] ls) ≡ None) [ [] ↦ refl | w ∷ ws ↦ refl ]

-- of an item
pub as_it_stands : (proofs cs ds : List Change) (x : Item) → cs ≡ [] → given_for ds x ≡ None → given_for proofs x ≡ None
    → (old new : List ℕ) → new ≡ old ++ bytes_of x → IsPut old new (ReadsDressed proofs cs ds x)
as_it_stands proofs cs ds x labels comment proof old new e = (
  bytes_of x,
  e,
  subst (λ c. Reads cs c (given_for proofs x) x (bytes_of x)) (sym comment)
      (subst (λ o. Reads cs None o x (bytes_of x)) (sym proof)
      (subst (λ ls. Reads ls None None x (bytes_of x)) (sym labels) (sym (as_written x)))),
)

part_is : (x : Item) (now : List ℕ) → ReadsDressed [] [] [] x now → now ≡ bytes_of x
part_is x now reads = subst (λ o. Reads [] o o x now) (nothing_for x) reads ∙ as_written x

parts_are : (xs : List Item) (parts : List (List ℕ)) → AllZip (ReadsDressed [] [] []) xs parts
    → flat_map (λ p. p) parts ≡ bytes_of (pieces_of xs)
parts_are [] [] each = refl
parts_are [] (p ∷ ps) each = absurd each
parts_are (x ∷ xs) [] each = absurd each
parts_are (x ∷ xs) (p ∷ ps) each =
    ap (λ bs. bs ++ flat_map (λ p. p) ps) (part_is x p each.0)
    ∙ (ap (λ bs. bytes_of x ++ bs) (parts_are xs ps each.1) ∙ sym (flat_map-append (λ p. p.space ++ p.word) x (pieces_of xs)))

source_stays : (source out : List ℕ) → HasDressedItems [] [] [] source out → out ≡ source
source_stays source out d = d.text ∙ (ap (λ bs. bs ++ d.rest) (parts_are d.items d.parts d.each) ∙ sym d.spells.bytes)

pub are_dressed : (ps cs ds : List Change) (source out : List ℕ) → HasDressedItems ps cs ds source out → IsDressedWith ps cs ds source out
are_dressed [] [] [] source out d = source_stays source out d
are_dressed [] [] (c ∷ ds) source out d = d
are_dressed [] (c ∷ cs) ds source out d = d
are_dressed (p ∷ ps) cs ds source out d = d

pub stays_without : (source out : List ℕ) → IsDressedIn [] [] [] source out → out ≡ source
stays_without source out d = subst (λ ps. IsDressedWith ps [] [] source out) d.quoted d.items
