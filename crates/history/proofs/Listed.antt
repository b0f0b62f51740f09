-- A draft's lists of citers after a change, and when nothing is noted.
use Rattle.std.proofs.Common.{◌≡◌, ℕ, List, [], ◌∷◌, ◌++◌, Vec, Option, None, length, set, sym, subst, ◌∙◌, arith}
use Rattle.std.specs.List.Sorted.{IsStrictlyIncreasing}
use Rattle.std.specs.declared.alloc.Global.{Global}
use Rattle.std.proofs.lemmas.List.{length-set, length-append}
use Rattle.std.proofs.lemmas.List.Elements.{All-append, All-cons, All-nil}
use Rattle.library.specs.declared.library.Ranked.{Ranked}
use Rattle.catalog.specs.declared.notes.Note.{Note}
use Rattle.catalog.specs.Entries.{Entries}
use Rattle.catalog.specs.Places.{Places}
use Rattle.catalog.specs.Citers.{Citers, Covers, KeepsCiters, EachAscends}
use Rattle.catalog.specs.Changes.{undone, CanUndo}
use Rattle.history.specs.Drafts.{AreCiters}
use Rattle.catalog.proofs.Covering.{keeps-pushed, covers-kept, covers-opened}
use Rattle.catalog.proofs.Undoing.{undone-opened}

-- a place has something else, and what it had is noted
pub citers_noted : (c : Citers) (ns after : List Note) (es : Entries) (p : ℕ) (o : Option Ranked) → AreCiters c ns es
    → Covers c (set es p o)
    → undone after (set es p o) ≡ undone ns es → AreCiters c after (set es p o)
citers_noted c ns after es p o k covered back = record {
  long = k.long ∙ sym (length-set es p o);
  ascending = k.ascending;
  covers_now = covered;
  covers_start = subst (Covers c) (sym back) k.covers_start;
}

-- lists grow
pub citers_grown : (c d : Citers) (ns : List Note) (es : Entries) → length d ≡ length c → EachAscends d → KeepsCiters c d
    → AreCiters c ns es → AreCiters d ns es
citers_grown c d ns es long up kept k = record {
  long = long ∙ k.long;
  ascending = up;
  covers_now = covers-kept c d es kept k.covers_now;
  covers_start = covers-kept c d (undone ns es) kept k.covers_start;
}

-- one more place, whose list is empty
pub citers_opened : (m : Places) (c : Citers) (last : Vec ℕ Global) (ns : List Note) (es : Entries) → last.items ≡ [] → CanUndo m ns es
    → AreCiters c ns es → AreCiters (c ++ last ∷ []) ns (es ++ None ∷ [])
citers_opened m c last ns es empty can k =
    let Up = λ (l : Vec ℕ Global). IsStrictlyIncreasing l.items in
    let kept = keeps-pushed c last in
    let none : IsStrictlyIncreasing [] = λ i lt. absurd (omega arith) in
    record {
      long = (let long = k.long in omega (arith, length-append c (last ∷ []), length-append es (None ∷ [])));
      ascending = All-append Up c (last ∷ []) k.ascending (All-cons Up last [] (subst IsStrictlyIncreasing (sym empty) none) (All-nil Up));
      covers_now = covers-opened (c ++ last ∷ []) es (covers-kept c (c ++ last ∷ []) es kept k.covers_now);
      covers_start = subst (Covers (c ++ last ∷ [])) (sym (undone-opened m ns es can))
          (covers-opened (c ++ last ∷ []) (undone ns es) (covers-kept c (c ++ last ∷ []) (undone ns es) kept k.covers_start));
    }

-- nothing is noted
pub citers_settled : (c : Citers) (ns : List Note) (es : Entries) → ns ≡ [] → length c ≡ length es → EachAscends c → Covers c es
    → AreCiters c ns es
citers_settled c ns es none long up covered =
    subst (λ k. AreCiters c k es) (sym none) (record { long = long; ascending = up; covers_now = covered; covers_start = covered })
