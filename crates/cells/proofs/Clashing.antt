-- How a label stands to those of a library that the cells show.
use Rattle.std.proofs.Common.{◌≡◌, ◌≢◌, ℕ, ◌<◌, Bool, true, false, List, [], map, refl, sym, ap, subst, ◌∙◌, ◌⊎◌, inl, inr, ◌+◌, ◌*◌, ◌^◌}
use Rattle.std.specs.Prelude.{◌||◌}
use Rattle.std.specs.List.{Contains}
use Rattle.std.specs.Str.{bytes_eq}
use Rattle.std.proofs.lemmas.Bool.{both_ways, false_from_ne_true, or_cases, or_from, or_left}
use Rattle.mmsyntax.proofs.Names.{same_bytes, bytes_eq-same}
use Rattle.mmsyntax.specs.Dotted.{is_dotted, clash, trunk, ClashNowhere}
use Rattle.mmsyntax.proofs.DottedWords.{not_dotted_itself, dotted_trunk, dotted_parts, trunk_whole_or_dotted}
use Rattle.library.specs.declared.library.Ranked.{Ranked}
use Rattle.library.specs.Library.{label_of}
use Rattle.library.specs.Edits.{is_labelled, has, clashes, without}
use Rattle.library.proofs.Filtered.{contains_mapped, contains_unmapped}
use Rattle.library.proofs.Places.{is_labelled-own, has_somewhere}
use Rattle.library.proofs.Clashing.{clashes_without_at, clashes_without_somewhere}
use Rattle.ranges.specs.declared.range.Range.{Range as Span}
use Rattle.cells.specs.State.{State}
use Rattle.cells.specs.Slots.{name_cell, hash, bucket}
use Rattle.cells.specs.Shows.{Held, IsNamed, Shows}
use Rattle.cells.specs.Sight.{Sight, Matches, Views, Looks, KnowsRange, after}
use Rattle.cells.specs.Lookups.{TellsAvailability}
use Rattle.cells.specs.Clashing.{IsInTheWay, StandsAt, TellsAvailabilityAt, IsClearIn, TellsAvailabilityIn}
use Rattle.cells.specs.declared.labels.Availability.{Availability}
use Rattle.cells.specs.declared.labels.Availability.TheVariants.{Free, Taken, Clashing}
use Rattle.cells.specs.Footprints.{ReadsWhere, IsAlong, IsOfLook, IsOfClash}
use Rattle.cells.proofs.Along.{where_same, where_trans}
use Rattle.cells.proofs.Sights.{for_each_later, looks_refl}
use Rattle.cells.proofs.Settings.{same_slots}
use Rattle.cells.proofs.Bodies.{body_known, words_known, same_words, no_body}
use Rattle.cells.proofs.DottedTails.{dotted_some}
use Rattle.cells.proofs.Holders.{listed, holds_it, holder}
use Rattle.cells.proofs.Holding.{named_has}

-- ---- two words

pub differs : (a b : List ℕ) → bytes_eq a b ≡ false → a ≢ b
differs a b n same = both_ways (bytes_eq a b) n (subst (λ (w : List ℕ). bytes_eq a w ≡ true) same (bytes_eq-same a))

module _ (name label : List ℕ) where
  -- L clashes with this label L.k
  pub clash_front : trunk label ≢ label → name ≡ trunk label → clash name label ≡ true
  clash_front part is =
      or_left (is_dotted name label) (is_dotted label name) (subst (λ (l : List ℕ). is_dotted l label ≡ true) (sym is) dotted)
    where
      dotted : is_dotted (trunk label) label ≡ true
      dotted = elim (trunk_whole_or_dotted label) [ inl whole ↦ absurd (part whole) | inr y ↦ y ]

  -- and what isn't L, just where it is L.k of this label
  pub clash_other : ((trunk label ≡ label) ⊎ (name ≢ trunk label)) → is_dotted label name ≡ clash name label
  clash_other front = sym (ap (λ (b : Bool). b || is_dotted label name) (false_from_ne_true (is_dotted name label) no_front))
    where
      no_front : is_dotted name label ≡ true → ⊥
      no_front y =
          let is : trunk label ≡ name = dotted_trunk name label y in
          elim front [
            | inl whole ↦
                both_ways (is_dotted label label) (not_dotted_itself label)
                (subst (λ (l : List ℕ). is_dotted l label ≡ true) (sym is ∙ whole) y)
            | inr ne ↦ ne (sym is)
          ]

  -- what clashes has a byte
  clash_some : clash name label ≡ true → name ≢ []
  clash_some y = elim (or_cases (is_dotted name label) (is_dotted label name) y) [
    | inl above ↦ let parts = dotted_parts name label above in parts.some
    | inr below ↦ dotted_some label name below
  ]

-- no slot has a name that is in the way of an empty label
pub empty_free : (own label : List ℕ) (slots : ℕ) (st : State) (i : ℕ) → label ≡ [] → StandsAt own label slots st i Free
empty_free own label slots st i none = λ name named way. elim way [
  | inl same ↦ let body = named.body in body.some (same ∙ none)
  | inr clashing ↦ elim (or_cases (is_dotted name label) (is_dotted label name) clashing.0) [
    | inl above ↦ dotted_some name label above none
    | inr below ↦ let parts = dotted_parts label name below in parts.some none
  ]
]

-- a slot that is named 0 has none
pub unnamed_free : (own label : List ℕ) (slots : ℕ) (st : State) (i : ℕ) → st.value (name_cell i) ≡ 0 → StandsAt own label slots st i Free
unnamed_free own label slots st i zero = λ name named way. no_body st (name_cell i) name named.body zero

-- ---- the words of a name

module _ {O : Type 0} (s : Sight O) (st : State) (matches : Matches s st) (range : Span) (slot word : ℕ) (words own label : List ℕ)
    (k : KnowsRange s range words) (read : word ≡ (after s st).value (name_cell slot)) (is : word ≡ range.start * 2 ^ 25 + range.len) where
  named_words : (name : List ℕ) → IsNamed s.setting.slots (after s st) slot name → words ≡ name
  named_words name named = words_known s st matches range (name_cell slot) words name k (sym read ∙ is) named.body

  pub words_taken : slot < s.setting.slots → label ≢ [] → words ≡ label → StandsAt own label s.setting.slots (after s st) slot Taken
  words_taken within some same =
      record { within = within; body = (same_words s st range (name_cell slot) word words label matches k read is some).0 same }

  pub words_clashing : slot < s.setting.slots → clash words label ≡ true → words ≢ own
      → StandsAt own label s.setting.slots (after s st) slot Clashing
  words_clashing within y other = (
    words,
    record {
      within = within;
      body = body_known s st matches range (name_cell slot) words k (sym read ∙ is) (clash_some words label y);
    },
    y,
    other,
  )

  pub words_free : words ≢ label → ((clash words label ≡ false) ⊎ (words ≡ own)) → StandsAt own label s.setting.slots (after s st) slot Free
  words_free ne free = λ name named way.
      let same = named_words name named in
      elim way [
        | inl is_it ↦ ne (same ∙ is_it)
        | inr clashing ↦ elim free [
          | inl none ↦ both_ways (clash words label) none (subst (λ (w : List ℕ). clash w label ≡ true) (sym same) clashing.0)
          | inr left_out ↦ clashing.1 (sym same ∙ left_out)
        ]
      ]

-- ---- the names of a bucket

-- a slot that has a name of the bucket that is in the way
abbrev pub IsInTheWayIn : ℕ → List ℕ → List ℕ → ℕ → State → ℕ → Type 0
IsInTheWayIn b own label slots st i = (name : List ℕ) × IsNamed slots st i name × (bucket slots name ≡ b) × IsInTheWay own label name

-- a label that clashes with that of an assertion is no other's
free_apart : (lib : List Ranked) (label : List ℕ) (e : Ranked) → ClashNowhere (map label_of lib) → Contains lib e
    → clash (label_of e) label ≡ true
    → has lib label ≡ false
free_apart lib label e apart at y = false_from_ne_true (has lib label) (λ z.
    let h = has_somewhere lib label z in
    let here = subst (λ (l : List ℕ). Contains (map label_of lib) l) h.4 (contains_mapped label_of lib h.1 (h.0, h.2, h.3)) in
    let there = contains_mapped label_of lib e at in
    both_ways (clash (label_of e) label)
    (or_from (is_dotted (label_of e) label) (is_dotted label (label_of e)) (apart (label_of e) label there here)
    (apart label (label_of e) here there))
    y)

module _ {O : Type 0} (s : Sight O) (own label : List ℕ) where
  -- no slot
  pub clear_in : (slots b : ℕ) → slots ≡ s.setting.slots
      → ((st : State) (lib : List Ranked) → Views s st lib → (i : ℕ) → IsInTheWayIn b own label slots (after s st) i → ⊥)
      → TellsAvailabilityIn s b own label Free
  clear_in slots b is none = λ st lib v i name named of way.
      none st lib v i (subst (λ (n : ℕ). IsInTheWayIn b own label n (after s st) i) (sym is) (name, named, of, way))

  taken : (i : ℕ) → TellsAvailabilityAt s i own label Taken → TellsAvailability s own label Taken
  taken i named = λ st lib v. named_has s.setting.slots (after s st) lib v.shows v.matches.store i label (named st v.matches)

  clashing : (i : ℕ) → TellsAvailabilityAt s i own label Clashing → TellsAvailability s own label Clashing
  clashing i clashes_there = λ st lib v.
      let d = clashes_there st v.matches in
      let h = holder s.setting.slots (after s st) lib v.shows v.matches.store i d.0 d.1 in
      let e = h.0.entry in
      let at = listed s.setting.slots (after s st) lib v.shows h.0 h.1 in
      let y : clash (label_of e) label ≡ true = subst (λ (l : List ℕ). clash l label ≡ true) (sym h.3) d.2 in
      let other = false_from_ne_true (is_labelled own e) (λ z. d.3 (sym h.3 ∙ sym (same_bytes own (label_of e) z))) in
      (free_apart lib label e v.verifies.library.apart at y, clashes_without_at lib own label e at other y)

  -- a slot tells it that isn't free
  pub told_at : (b i : ℕ) (met : Availability) → met ≢ Free → TellsAvailabilityAt s i own label met → TellsAvailabilityIn s b own label met
  told_at b i Free other told = absurd (other refl)
  told_at b i Taken other told = taken i told
  told_at b i Clashing other told = clashing i told

  -- and a bucket too
  pub told_in : (b : ℕ) (met : Availability) → met ≢ Free → TellsAvailabilityIn s b own label met → TellsAvailability s own label met
  told_in b Free other told = absurd (other refl)
  told_in b Taken other told = told
  told_in b Clashing other told = told

  pub told_last : (b : ℕ) (met : Availability) → (TellsAvailabilityIn s b own label Free → TellsAvailability s own label Free)
      → TellsAvailabilityIn s b own label met → TellsAvailability s own label met
  told_last b Free clear told = clear told
  told_last b Taken clear told = told
  told_last b Clashing clear told = told

-- a bucket that is clear stays so while nothing is written
pub clear_later : {O : Type 0} → (r s : Sight O) (b : ℕ) (own label : List ℕ) → Looks r s → TellsAvailabilityIn r b own label Free
    → TellsAvailabilityIn s b own label Free
clear_later r s b own label looks clear =
    subst (λ (n : ℕ). (st : State) (lib : List Ranked) → Views s st lib → IsClearIn b own label n (after s st)) (sym (same_slots r s looks))
    (for_each_later r s (λ st lib. IsClearIn b own label r.setting.slots st) looks clear)

-- ---- all buckets

-- the slot of an assertion has its name
named_of : (slots : ℕ) (st : State) (lib : List Ranked) → Shows slots st lib → (e : Ranked) → Contains lib e
    → (i : ℕ) × IsNamed slots st i (label_of e)
named_of slots st lib shows e at =
    let h = contains_unmapped (λ (q : Held). q.entry) shows.held e (subst (λ (xs : List Ranked). Contains xs e) (sym shows.library) at) in
    let holds = holds_it slots st lib shows h.0 h.1 in
    (h.0.slot, subst (λ (x : Ranked). IsNamed slots st h.0.slot (label_of x)) h.2 holds.name)

module _ {O : Type 0} (s : Sight O) (own label : List ℕ) where
  abbrev ClearIn : ℕ → Type 0
  ClearIn b = TellsAvailabilityIn s b own label Free

  -- nothing is in the way in the three buckets
  pub all_clear : ClearIn (bucket s.setting.slots label) → ClearIn (hash s.setting.slots label)
      → ((trunk label ≡ own) ⊎ ClearIn (bucket s.setting.slots (trunk label))) → TellsAvailability s own label Free
  all_clear first below last = λ st lib v.
      let slots = s.setting.slots in (
        false_from_ne_true (has lib label) (λ y.
            let h = has_somewhere lib label y in
            let n = named_of slots (after s st) lib v.shows h.1 (h.0, h.2, h.3) in
            first st lib v n.0 label (subst (λ (l : List ℕ). IsNamed slots (after s st) n.0 l) h.4 n.1) refl (inl refl)),
        false_from_ne_true (clashes (without own lib) label) (λ y.
            let h = clashes_without_somewhere lib own label y in
            let e = h.0 in
            let n = named_of slots (after s st) lib v.shows e h.1 in
            let other : label_of e ≢ own = λ same. both_ways (is_labelled own e) h.2 (is_labelled-own own e same) in
            elim (or_cases (is_dotted (label_of e) label) (is_dotted label (label_of e)) h.3) [
              | inl above ↦
                  let is : trunk label ≡ label_of e = dotted_trunk (label_of e) label above in
                  elim last [
                    | inl left_out ↦ other (sym is ∙ left_out)
                    | inr clear ↦ clear st lib v n.0 (label_of e) n.1 (ap (bucket slots) (sym is)) (inr (h.3, other))
                  ]
              | inr under ↦ below st lib v n.0 (label_of e) n.1 (ap (hash slots) (dotted_trunk label (label_of e) under)) (inr (h.3, other))
            ]),
      )

  -- in the one of a label that is no L.k
  pub plain_clear : trunk label ≡ label → ClearIn (bucket s.setting.slots label) → TellsAvailability s own label Free
  plain_clear whole first =
      all_clear first (subst ClearIn (ap (hash s.setting.slots) whole) first)
      (inr (subst ClearIn (ap (bucket s.setting.slots) (sym whole)) first))

-- ---- which cells are read

module _ {O : Type 0} (old : Sight O) (own label : List ℕ) where
  -- those of a look for the label, and of one for labels that clash with it
  abbrev pub ReadsForStanding : Sight O → Type 0
  ReadsForStanding s =
      ReadsWhere (λ st c. IsOfLook old.setting.slots label st c ⊎ IsOfClash old.setting.slots own label st c) old s

  pub first_walked : (s : Sight O) (b : ℕ) → Looks old s → b ≡ bucket old.setting.slots label
      → ReadsWhere (IsAlong old.setting.slots b) old s
      → ReadsForStanding s
  first_walked s b looks is reads =
      where_trans (where_same old) (looks_refl old) looks.onward reads
      (λ st c at. inl (subst (λ (n : ℕ). IsAlong old.setting.slots n st c) is at))

  -- and then more
  module _ (r s : Sight O) (b : ℕ) (first : Looks old r) (looks : Looks r s) (before : ReadsForStanding r)
      (reads : ReadsWhere (IsAlong r.setting.slots b) r s) where
    more_walked : ((st : State) (c : ℕ) → IsAlong old.setting.slots b st c → IsOfClash old.setting.slots own label st c)
        → ReadsForStanding s
    more_walked wider =
        where_trans before first looks.onward
        (subst (λ (n : ℕ). ReadsWhere (IsAlong n b) r s) (same_slots old r first) reads) (λ st c at. inr (wider st c at))

    pub below_walked : b ≡ hash old.setting.slots label → ReadsForStanding s
    below_walked is = more_walked (λ st c at. inr (subst (λ (n : ℕ). IsAlong old.setting.slots n st c) is at))

    pub last_walked : trunk label ≢ label → trunk label ≢ own → b ≡ bucket old.setting.slots (trunk label) → ReadsForStanding s
    last_walked part other is = more_walked (λ st c at. inl (part, other, subst (λ (n : ℕ). IsAlong old.setting.slots n st c) is at))
