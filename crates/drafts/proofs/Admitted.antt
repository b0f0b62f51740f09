-- Assertions that are admitted one by one are spelled, and each of spelled ones is admissible behind those before it.
use Rattle.std.proofs.Common.{◌≡◌, ◌<◌, true, false, List, [], ◌∷◌, ◌++◌, length, refl, sym, subst, ◌∙◌}
use Rattle.std.specs.Option.{is_some}
use Rattle.std.specs.Str.{bytes_eq}
use Rattle.std.proofs.lemmas.Bool.{le-ltb, or_from}
use Rattle.std.proofs.lemmas.List.{map-append}
use Rattle.mmsyntax.specs.declared.statement.Assertion.{Assertion}
use Rattle.mmtext.specs.Words.{Word}
use Rattle.mmsyntax.specs.Tables.{Tables, Contents, meaning}
use Rattle.mmsyntax.specs.Rows.{Units, is_used, is_assertion_label}
use Rattle.mmsyntax.specs.Dotted.{clash, ClashNowhere}
use Rattle.mmsyntax.specs.Layout.{HasSpelling, text_of}
use Rattle.mmsyntax.specs.Preludes.{AreSound}
use Rattle.mmsyntax.specs.Assertions.{Distinct, IsUnit, is_lawful_label}
use Rattle.mmsyntax.proofs.Names.{bytes_eq-sym}
use Rattle.mmsyntax.proofs.Distinct.{any-map, all_right, distinct_front, labels_of, new_word}
use Rattle.mmsyntax.proofs.Apart.{apart_front}
use Rattle.mmsyntax.proofs.Sound.{IsSound, alone_sound, assertion_sound}
use Rattle.mmsyntax.proofs.Again.{plain_label}
use Rattle.mmsyntax.proofs.Canonical.{sound_of, spelled}
use Rattle.mmunits.specs.Views.{known_of}
use Rattle.drafts.specs.News.{IsAdmissible}

-- the assertions alone
abbrev pub units_of : List Assertion → Units
units_of xs = record { assertions = xs; hypothesis_labels = []; prelude_closed = true }

abbrev pub AreAdmitted : Tables → List Assertion → Type 0
AreAdmitted t xs = IsSound (known_of t (units_of xs))

pub none_admitted : (t : Tables) → AreSound t → AreAdmitted t []
none_admitted t s = alone_sound t true s

-- with one more that is admissible
pub one_more : (t : Tables) (xs : List Assertion) (a : Assertion) → AreAdmitted t xs → length xs < 4096 → IsAdmissible t (units_of xs) a
    → AreAdmitted t (xs ++ a ∷ [])
one_more t xs a s room h =
    let k = known_of t (units_of xs) in
    let plain = plain_label a.label (is_some (meaning t a.label)) h.lawful in
    let unused : is_used k a.label ≡ false = or_from (is_some (meaning t a.label)) _ plain.new h.new in
    assertion_sound k a s h.unit h.lawful
    (record { short = le-ltb 255 (length a.label) plain.short; new = new_word k a.label unused; clear = h.clear; room = room })

pub admitted_spelled : (t : Tables) (xs : List Assertion) → AreAdmitted t xs → HasSpelling (record { prelude = t; assertions = xs })
admitted_spelled t xs s =
    let c : Contents = record { prelude = t; assertions = xs } in
    record { text = text_of c; spells = spelled c s }

-- what is spelled is admissible behind what stands before it
pub admissible_next : (t : Tables) (front : List Assertion) (a : Assertion) (rest : List Assertion)
    → HasSpelling (record { prelude = t; assertions = front ++ a ∷ rest }) → IsAdmissible t (units_of front) a
admissible_next t front a rest h =
    let s = sound_of (record { prelude = t; assertions = front ++ a ∷ rest }) h in
    let label : Assertion → Word = λ x. x.label in
    let split : labels_of (front ++ a ∷ rest) ≡ labels_of front ++ a.label ∷ labels_of rest = map-append label front (a ∷ rest) in
    let distinct = subst (Distinct bytes_eq) split s.distinct in
    let apart = subst ClashNowhere split s.apart in
    record {
      unit = (all_right (IsUnit t) front (a ∷ rest) s.units).0;
      lawful = (all_right (λ x. is_lawful_label t x.label ≡ true) front (a ∷ rest) s.lawful).0;
      new = or_from (is_assertion_label front a.label) _ (sym (any-map (bytes_eq a.label) label front)
          ∙ distinct_front bytes_eq bytes_eq-sym (labels_of front) (labels_of rest) a.label distinct) refl;
      clear = sym (any-map (λ l. clash l a.label) label front) ∙ apart_front (labels_of front) (labels_of rest) a.label apart;
    }
