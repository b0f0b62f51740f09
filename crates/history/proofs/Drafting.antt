-- What is always true of a draft's fields, after a change, with one more place, and when nothing is noted.
use Rattle.std.proofs.Common.{◌≡◌, ℕ, List, [], ◌∷◌, ◌++◌, Option, None, Some, length, set}
use Rattle.std.proofs.Common.{arith, sym, ap, subst, ◌∙◌, inl, inr}
use Rattle.std.specs.List.{slice_get}
use Rattle.std.specs.Map.{lookup}
use Rattle.std.specs.Str.{bytes_eq}
use Rattle.std.specs.Option.{IsSome}
use Rattle.std.proofs.lemmas.List.{length-append}
use Rattle.mmsyntax.specs.declared.statement.Frame.{Frame}
use Rattle.mmsyntax.specs.Tables.{Tables}
use Rattle.mmframes.specs.Frames.{frame}
use Rattle.library.specs.declared.library.Ranked.{Ranked}
use Rattle.library.specs.Library.{label_of}
use Rattle.catalog.specs.declared.notes.Note.{Note}
use Rattle.catalog.specs.Entries.{Entries, living, AreFramed}
use Rattle.catalog.specs.Places.{Places, place_in, IsIndex, HasOnly}
use Rattle.catalog.specs.Changes.{taken_back, undone, formers, CanUndo}
use Rattle.history.specs.Drafts.{IsDraft, IsCounted}
use Rattle.catalog.proofs.Changing.{set-back, get-left, living-opened}
use Rattle.catalog.proofs.Indexes.{IsAloneIn, PutsAt, puts_at-keeps, index-set, index-opened, pushed-cases}
use Rattle.catalog.proofs.Undoing.{undone-push, can_undo-push, can_undo-kept, can_take_back, formers-push, only-fewer, somewhere-left, only-noted}
use Rattle.catalog.proofs.Undoing.{framed-set, notes_framed-push, notes_framed-opened, undone-opened, can_undo-opened}

-- ---- a draft after a change

-- a map that finds the same is as good
pub draft_same : (t : Tables) (m n : Places) (frames : List Frame) (ns : List Note) (es : Entries) → n.entries ≡ m.entries
    → IsDraft t m frames ns es → IsDraft t n frames ns es
draft_same t m n frames ns es same d =
    let found : (w : List ℕ) → place_in n w ≡ place_in m w = λ w. ap (lookup (λ k. bytes_eq w k.items)) same in
    record {
      indexed = record { finds = λ p e at. found (label_of e) ∙ d.indexed.finds p e at };
      only = only-fewer m n es (formers ns) (record { keeps = λ q some. subst (λ o. IsSome o) (found q) some }) d.only;
      framed = d.framed;
      can_undo = can_undo-kept m n ns es (record { keeps = λ q some. subst (λ o. IsSome o) (sym (found q)) some }) d.can_undo;
      noted = d.noted;
    }

-- a place has something else, and what it had is noted
pub draft_changed : (t : Tables) (m n : Places) (frames : List Frame) (ns : List Note) (es : Entries) (p : ℕ) (former new : Option Ranked)
    → IsDraft t m frames ns es
    → slice_get es p ≡ Some former → ((e : Ranked) → new ≡ Some e → slice_get frames p ≡ Some (frame t e.assertion))
    → IsAloneIn es new p → PutsAt m new p n
    → IsDraft t n frames (ns ++ record { place = p; former = former } ∷ []) (set es p new)
    × (undone (ns ++ record { place = p; former = former } ∷ []) (set es p new) ≡ undone ns es)
draft_changed t m n frames ns es p former new d at own alone puts =
    let note : Note = record { place = p; former = former } in
    let back : taken_back note (set es p new) ≡ es = set-back es p former new at in
    let keeps = puts_at-keeps m n new p puts in
    let can = subst (CanUndo n ns) (sym back) (can_undo-kept m n ns es keeps d.can_undo) in (
      record {
        indexed = index-set m n es p new d.indexed alone puts;
        only = subst (HasOnly n (set es p new)) (sym (formers-push ns note)) (only-noted m n es (formers ns) p former new at puts d.only);
        framed = framed-set t es frames p new d.framed own;
        can_undo = can_undo-push n ns note (set es p new) can (can_take_back m n es p former new d.indexed at keeps);
        noted = notes_framed-push t ns note frames d.noted (λ e is. d.framed.framed p e (at ∙ ap (λ x. Some x) is));
      },
      undone-push ns note (set es p new) ∙ ap (undone ns) back,
    )

-- the same, with how many assertions there are
pub draft_noted : (t : Tables) (m n : Places) (frames : List Frame) (ns after : List Note) (es now : Entries) (p : ℕ)
    (former new : Option Ranked) (count count' start : ℕ) → IsDraft t m frames ns es → IsCounted count start ns es
    → slice_get es p ≡ Some former → ((e : Ranked) → new ≡ Some e → slice_get frames p ≡ Some (frame t e.assertion))
    → IsAloneIn es new p → PutsAt m new p n
    → after ≡ ns ++ record { place = p; former = former } ∷ [] → now ≡ set es p new → count' ≡ length (living (set es p new))
    → IsDraft t n frames after now × IsCounted count' start after now × (undone after now ≡ undone ns es)
draft_noted t m n frames ns after es now p former new count count' start d k at own alone puts noted done counted =
    let both = draft_changed t m n frames ns es p former new d at own alone puts in
    let note : Note = record { place = p; former = former } in
    let back : undone after now ≡ undone ns es = ap (λ ks. undone ks now) noted ∙ ap (undone (ns ++ note ∷ [])) done ∙ both.1 in (
      subst (λ ks. IsDraft t n frames ks now) (sym noted) (subst (IsDraft t n frames (ns ++ note ∷ [])) (sym done) both.0),
      record {
        now_right = counted ∙ ap (λ l. length (living l)) (sym done);
        start_right =
            k.start_right ∙ ap (λ l. length (living l)) (sym back);
      },
      back,
    )

-- ---- a draft with one more place

pub draft_opened : (t : Tables) (m : Places) (frames : List Frame) (f : Frame) (ns : List Note) (es : Entries) → IsDraft t m frames ns es
    → IsDraft t m (frames ++ f ∷ []) ns (es ++ None ∷ []) × (living (undone ns (es ++ None ∷ [])) ≡ living (undone ns es))
draft_opened t m frames f ns es d = (
  record {
    indexed = index-opened m es d.indexed;
    only = record {
      among = λ w some. elim (d.only.among w some) [
        | inl here ↦ inl (somewhere-left es (None ∷ []) w here)
        | inr there ↦ inr there
      ];
    };
    framed = record {
      long = (let long = d.framed.long in omega (arith, length-append frames (f ∷ []), length-append es (None ∷ [])));
      framed = λ p e at. elim (pushed-cases es None p e at) [
        | inl was ↦ get-left frames (f ∷ []) p (frame t e.assertion) (d.framed.framed p e was)
        | inr last ↦ absurd (let none : None ≡ Some e = last.1 in cc)
      ];
    };
    can_undo = can_undo-opened m ns es d.can_undo;
    noted = notes_framed-opened t ns frames f d.noted;
  },
  ap living (undone-opened m ns es d.can_undo) ∙ living-opened (undone ns es),
)

-- ---- a draft of which nothing is noted

pub draft_settled : (t : Tables) (m : Places) (frames : List Frame) (ns : List Note) (es : Entries) → ns ≡ [] → IsIndex m es
    → HasOnly m es []
    → AreFramed t es frames → IsDraft t m frames ns es
draft_settled t m frames ns es none indexed only framed =
    subst (λ k. IsDraft t m frames k es) (sym none) (record { indexed = indexed; only = only; framed = framed; can_undo = tt; noted = tt })

pub counted_settled : (n k : ℕ) (ns : List Note) (es : Entries) → ns ≡ [] → n ≡ length (living es) → k ≡ length (living es)
    → IsCounted n k ns es
counted_settled n k ns es none now start =
    subst (λ l. IsCounted n k l es) (sym none) (record { now_right = now; start_right = start })
