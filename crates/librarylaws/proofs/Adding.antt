-- What an added assertion does to a library that verifies: it still verifies.
use Rattle.std.proofs.Common.{◌≡◌, ◌<◌, false, List, [], ◌∷◌, ◌++◌, length, map, refl, ◌∙◌, arith}
use Rattle.std.specs.Prelude.{IsTrue}
use Rattle.std.specs.Str.{bytes_eq}
use Rattle.std.proofs.lemmas.List.Elements.{All-cons, All-weaker, Contains-append_right}
use Rattle.std.proofs.lemmas.List.Sorted.{IsPermutation-sym, IsPermutation-to_front}
use Rattle.mmsyntax.specs.Assertions.{is_lawful_label, Distinct, Fits}
use Rattle.library.specs.declared.library.Ranked.{Ranked}
use Rattle.library.specs.Library.{Setting, Verifies, label_of}
use Rattle.library.specs.Edits.{has, clashes, added}
use Rattle.library.proofs.Carrying.{checks_carried}
use Rattle.library.proofs.Clashing.{apart_front}
use Rattle.library.proofs.Places.{has-labels}
use Rattle.library.proofs.Showing.{InRange, ChecksIn, verifies_permutation}

-- one more in front
front_verifies : (s : Setting) (lib : List Ranked) (e : Ranked) → Verifies s lib → InRange e
    → IsTrue (is_lawful_label s.prelude (label_of e)) → has lib (label_of e) ≡ false → clashes lib (label_of e) ≡ false
    → length lib < s.slots
    → Fits s.prelude e.assertion → ChecksIn s lib e → Verifies s (e ∷ lib)
front_verifies s lib e v in_range lawful free clear room fits checks =
    let differ : Distinct bytes_eq (map label_of (e ∷ lib)) = (has-labels lib (label_of e) ∙ free, v.library.distinct) in
    let keeps = λ (f : Ranked). checks_carried s lib (e ∷ lib) f.rank f.rank f.assertion differ
    (λ g at lt cited. (g, Contains-append_right (e ∷ []) lib g at, record { below = lt; label = refl; alike = refl })) in
    record {
      setting = v.setting;
      library = record {
        ranks = All-cons InRange e lib in_range v.library.ranks;
        lawful = All-cons (λ f. IsTrue (is_lawful_label s.prelude (label_of f))) e lib lawful v.library.lawful;
        distinct = differ;
        apart = apart_front lib e clear v.library.apart;
        room = omega arith;
      };
      fit = All-cons (λ f. Fits s.prelude f.assertion) e lib fits v.fit;
      checks = All-cons (ChecksIn s (e ∷ lib)) e lib (keeps e checks)
          (All-weaker (ChecksIn s lib) (ChecksIn s (e ∷ lib)) keeps lib v.checks);
    }

-- an assertion that fits and checks may be added under a lawful label that none has and that clashes with none, where there is room
pub add_verifies : (s : Setting) (lib : List Ranked) (e : Ranked) → Verifies s lib → InRange e
    → IsTrue (is_lawful_label s.prelude (label_of e)) → has lib (label_of e) ≡ false → clashes lib (label_of e) ≡ false
    → length lib < s.slots
    → Fits s.prelude e.assertion → ChecksIn s lib e → Verifies s (added lib e.rank e.assertion)
add_verifies s lib e v in_range lawful free clear room fits checks =
    verifies_permutation s (e ∷ lib) (lib ++ e ∷ []) (front_verifies s lib e v in_range lawful free clear room fits checks)
    (IsPermutation-sym (lib ++ e ∷ []) (e ∷ lib) (IsPermutation-to_front lib e))
