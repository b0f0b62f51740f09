-- The letters of nodes that are put can be read again.
use Rattle.std.proofs.Common.{◌≡◌, ◌∙◌, ◌<◌, ◌+◌, ◌⊎◌, ℕ, zero, suc, Bool, true, false, cond, get_or, List, [], ◌∷◌, ◌++◌, length, drop, replicate, set, Vec, Global, refl, sym, ap, subst, inl, inr, arith}
use Rattle.std.specs.Prelude.{Option, Some, None, slice_get, nat_lt, count_by, is_some}
use Rattle.std.proofs.lemmas.Bool.{lt-ltb, cases_lt}
use Rattle.std.proofs.lemmas.List.{length_push, length-set, length-replicate, drop_more}
use Rattle.std.proofs.lemmas.List.Sums.{count_by-le-length, sum_by-set}
use Rattle.std.proofs.lemmas.Option.{slice_get_within, same_Some, get_or_from_slice_get}
use Rattle.mmtext.specs.Words.{Word}
use Rattle.mmsyntax.proofs.Items.{set_same, get_before}
use Rattle.source.specs.Letters.{Decoded, decoded, turned, before, turn_at, codes_of, uncut}
use Rattle.source.specs.declared.letters.Turn.{Turn}
use Rattle.source.specs.declared.letters.Code.{Code}
use Rattle.source.specs.declared.letters.Code.TheVariants.{Number, Mark}
use Rattle.taking.proofs.Values.{get_last}
use Rattle.sourcewriting.specs.declared.lettering.Letters.{Letters}
use Rattle.sourcewriting.specs.declared.shared.CountedLabel.{CountedLabel}
use Rattle.sourcewriting.specs.declared.shared.Node.{Node}
use Rattle.sourcewriting.specs.declared.shared.Shared.{Shared}
use Rattle.sourcewriting.specs.declared.walking.Put.{Put}
use Rattle.sourcewriting.specs.Letters.{ArePut as LettersPut}
use Rattle.sourcewriting.specs.Lettered.{AreCounted, IsLettered}
use Rattle.sourcewriting.specs.Nodes.{arguments_of, arguments_in, IsNode, AreNodes}
use Rattle.sourcewriting.specs.Readable.{Read, unread, written_then, Cites, Marks, IsLabelled, IsAgain, Leads, LeadAll}
use Rattle.sourcewriting.specs.Reading.{counts_of, find_in}
use Rattle.sourcewriting.specs.Walked.{Walked, unwalked, IsPut, IsPutOnce, IsPutAgain, ArePut}
use Rattle.sourcewriting.proofs.Nodes.{node_there, node_found, arguments_at}
use Rattle.sourcewriting.proofs.Walked.{flag_other, flag_was, none_taken, some_taken, cases_same, none_set}

-- ---- letters

abbrev says : List Code → ℕ → Option Decoded
says codes front = Some (record { codes = codes; front = front })

abbrev codes_in : Option Decoded → List Code
codes_in None = []
codes_in (Some d) = d.codes

abbrev front_in : Option Decoded → ℕ
front_in None = 0
front_in (Some d) = d.front

on_said : (said : Option Code) (rest more : Option Decoded) (codes others : List Code) (front end : ℕ) → before said rest ≡ says codes front
    → ((cs : List Code) → rest ≡ says cs front → more ≡ says (cs ++ others) end) → before said more ≡ says (codes ++ others) end
on_said None rest more codes others front end e later = later codes e
on_said (Some c) None more codes others front end e later = absurd cc
on_said (Some c) (Some d) more codes others front end e later =
    let cs : c ∷ d.codes ≡ codes = ap codes_in e in
    let f : d.front ≡ front = ap front_in e in
    let rest : Some d ≡ says d.codes front = ap (λ n. says d.codes n) f in
    ap (before (Some c)) (later d.codes rest) ∙ ap (λ cs. says (cs ++ others) end) cs

on_turn : (turn : Option Turn) (letters more : List ℕ) (codes others : List Code) (front end : ℕ)
    → turned turn (λ f. decoded f letters) ≡ says codes front
    → ((f : ℕ) (cs : List Code) → decoded f letters ≡ says cs front → decoded f more ≡ says (cs ++ others) end)
    → turned turn (λ f. decoded f more) ≡ says (codes ++ others) end
on_turn None letters more codes others front end e later = absurd cc
on_turn (Some t) letters more codes others front end e later =
    on_said t.said (decoded t.front letters) (decoded t.front more) codes others front end e (λ cs. later t.front cs)

-- letters behind others say what these say, and then what they say
said_behind : (letters more : List ℕ) (from front end : ℕ) (codes others : List Code) → decoded from letters ≡ says codes front
    → decoded front more ≡ says others end → decoded from (letters ++ more) ≡ says (codes ++ others) end
unfolding decoded
said_behind [] more from front end codes others e f =
    let none : [] ≡ codes = ap codes_in e in
    let same : from ≡ front = ap front_in e in
    ap (λ n. decoded n more) same ∙ f ∙ ap (λ cs. says (cs ++ others) end) none
said_behind (b ∷ letters) more from front end codes others e f =
    on_turn (turn_at from b) letters (letters ++ more) codes others front end e
    (λ n cs h. said_behind letters more n front end cs others h f)

pub number_said : (old new : List ℕ) (codes : List Code) (n : ℕ) → decoded 0 old ≡ says codes 0
    → LettersPut (record { codes = Number n ∷ []; front = 0 }) old new → decoded 0 new ≡ says (codes ++ Number n ∷ []) 0
number_said old new codes n e put =
    ap (decoded 0) put.behind ∙ said_behind old put.letters 0 0 0 codes (Number n ∷ []) e put.says

pub mark_said : (old new : List ℕ) (codes : List Code) → decoded 0 old ≡ says codes 0 → new ≡ old ++ 90 ∷ []
    → decoded 0 new ≡ says (codes ++ Mark ∷ []) 0
unfolding decoded
mark_said old new codes e is = ap (decoded 0) is ∙ said_behind old (90 ∷ []) 0 0 0 codes (Mark ∷ []) e refl

-- all of them are codes
pub all_said : (letters : List ℕ) (codes : List Code) → decoded 0 letters ≡ says codes 0 → codes_of letters ≡ Some codes
all_said letters codes e = ap uncut e

pub none_said : decoded 0 [] ≡ says [] 0
unfolding decoded
none_said = refl

-- ---- what they lead to

pub lead_more : (s : Shared) (cs : List CountedLabel) (codes : List Code) (c : Code) (a b d : Read) → LeadAll s cs codes a b
    → Leads s cs c b d → LeadAll s cs (codes ++ c ∷ []) a d
lead_more s cs [] c a b d all one = (d, subst (λ b. Leads s cs c b d) (sym all) one, refl)
lead_more s cs (x ∷ codes) c a b d all one = (all.0, all.1, lead_more s cs codes c all.0 b d all.2 one)

-- a label at a place
counted_at : (cs : List CountedLabel) (k : ℕ) (w : Word) (takes : ℕ) → slice_get (counts_of cs) k ≡ Some (w, takes)
    → (c : CountedLabel) × (slice_get cs k ≡ Some c) × (c.label.now ≡ w) × (c.takes ≡ takes)
counted_at [] k w takes at = absurd cc
counted_at (c ∷ cs) zero w takes at =
    let p : (c.label.now, c.takes) ≡ (w, takes) = same_Some (c.label.now, c.takes) (w, takes) at in
    (c, refl, ap (λ (p : Word × ℕ). p.0) p, ap (λ (p : Word × ℕ). p.1) p)
counted_at (c ∷ cs) (suc k) w takes at = counted_at cs k w takes at

abbrev flag : Option ℕ → ℕ
flag x = cond (is_some x) 1 0

-- one more is marked
count_more : (xs : List (Option ℕ)) (n m : ℕ) → slice_get xs n ≡ Some None
    → count_by is_some (set xs n (Some m)) ≡ count_by is_some xs + 1
count_more xs n m at =
    let e = sum_by-set flag xs n (Some m) None (slice_get_within xs n None at) in
    let f = ap flag (get_or_from_slice_get xs n None None at) in
    omega (arith, e, f)

none_counted : (n : ℕ) → count_by (is_some {T = ℕ}) (replicate n None) ≡ 0
none_counted zero = refl
none_counted (suc n) = none_counted n

none_there : (n k : ℕ) → k < length (replicate n false) → slice_get {X = Option ℕ} (replicate n None) k ≡ Some None
none_there zero k h = absurd (omega arith)
none_there (suc n) zero h = refl
none_there (suc n) (suc k) h = none_there n k (omega arith)

-- not too many are marked
pub marked_low : (s : Shared) (cs : List CountedLabel) (l : Letters) (w : Walked) → AreCounted s cs l → IsLettered s cs l w
    → l.marked < 268435460
marked_low s cs l w counted was =
    let many = count_by-le-length is_some l.marks.items in
    omega (arith, many, was.count, was.many, counted.few)

-- a node that was put is called by its number
module _ (s : Shared) (cs : List CountedLabel) (l : Letters) (n : ℕ) (old new : Walked) (counted : AreCounted s cs l)
    (again : IsPutAgain s n old new) (is-again : slice_get l.again.items n ≡ Some true) (was : IsLettered s cs l old) where
  pub mark_there : (m : ℕ) × (slice_get l.marks.items n ≡ Some (Some m)) × (slice_get was.read.marked m ≡ Some n)
  mark_there = was.mark n again.found is-again

  pub mark_low : length cs + mark_there.0 < 268435460
  mark_low =
      let within = slice_get_within was.read.marked mark_there.0 n mark_there.2 in
      let many = count_by-le-length is_some l.marks.items in
      omega (arith, within, many, was.marked, was.count, was.many, counted.few)

  pub repeated : (text : Vec ℕ Global)
      → LettersPut (record { codes = Number (length cs + mark_there.0 + 1) ∷ []; front = 0 }) l.text.items text.items
      → IsLettered s cs (record l { text = text }) new
  repeated text put =
      let there = mark_there in
      let then : Read = record was.read { entries = was.read.entries ++ n ∷ []; may_mark = false } in
      let one : IsAgain cs (length cs + there.0 + 1) was.read then = record {
        mark = there.0;
        numbered = omega arith;
        repeats = record { node = n; found = there.2; left = refl };
      } in
      record {
        codes = was.codes ++ Number (length cs + there.0 + 1) ∷ [];
        said = number_said l.text.items text.items was.codes (length cs + there.0 + 1) was.said put;
        read = then;
        leads =
            lead_more s cs was.codes (Number (length cs + there.0 + 1)) (unread (length s.nodes.items)) was.read then was.leads (inr one);
        entries = ap (λ es. es ++ n ∷ []) was.entries ∙ sym (ap (λ (w : Walked). w.entries) again.left);
        written = was.written ∙ sym (ap (λ (w : Walked). w.written) again.left);
        many = was.many;
        marked = was.marked;
        count = was.count;
        mark = λ k at. was.mark k (ap (λ (w : Walked). slice_get w.written k) (sym again.left) ∙ at);
        unmarked = λ k at. was.unmarked k (ap (λ (w : Walked). slice_get w.written k) (sym again.left) ∙ at);
      }

-- a node is put behind its arguments
module _ (s : Shared) (cs : List CountedLabel) (sound : AreNodes s) (l : Letters) (n : ℕ) (old new : Walked) (counted : AreCounted s cs l)
    (once : IsPutOnce s n old new) (was : IsLettered s cs l old) where
  pub own_node : (d : Node) × (slice_get s.nodes.items n ≡ Some d)
  own_node = node_there s n once.there

  pub own : IsNode s n own_node.0
  own = sound.each n own_node.0 own_node.1

  args : arguments_in s n ≡ arguments_of s own_node.0
  args = arguments_at s n own_node.0 own_node.1

  pub own_number : (k : ℕ) × (slice_get l.numbers.now own_node.0.word ≡ Some k)
      × (slice_get (counts_of cs) k ≡ Some (own.label.label.now, own.label.takes))
  own_number = counted.numbers own_node.0.word own.label own.named

  own_label : (c : CountedLabel) × (slice_get cs own_number.0 ≡ Some c) × (c.label.now ≡ own.label.label.now) × (c.takes ≡ own.label.takes)
  own_label = counted_at cs own_number.0 own.label.label.now own.label.takes own_number.2

  pub number_low : own_number.0 < 268435460
  number_low = let h = slice_get_within cs own_number.0 own_label.0 own_label.1 in omega (arith, h, counted.few)

  many : own_label.0.takes ≡ length (arguments_in s n)
  many = own_label.3 ∙ sym own.many ∙ ap length (sym args)

  abbrev read_then : Read
  read_then = record {
    entries = once.front ++ n ∷ [];
    marked = was.read.marked;
    written = written_then own_label.0.takes n was.read.written;
    may_mark = nat_lt 0 own_label.0.takes;
  }

  cites : Cites s own_label.0 was.read read_then
  cites = record {
    front = once.front;
    taken = arguments_in s n;
    node = n;
    split = was.entries ∙ once.split;
    many = sym many;
    found =
        ap (λ w. find_in s w (arguments_in s n)) own_label.2
        ∙ ap (find_in s own.label.label.now) args
        ∙ node_found s n own_node.0 own;
    first = λ some.
        ap (λ fs. slice_get fs n) was.written ∙ once.first (subst (λ k. 0 < k) many some);
    left = refl;
  }

  labelled : IsLabelled s cs (own_number.0 + 1) was.read read_then
  labelled = record {
    place = own_number.0;
    numbered = omega arith;
    label = own_label.0;
    counted = own_label.1;
    within = slice_get_within cs own_number.0 own_label.0 own_label.1;
    cites = cites;
  }

  leads_then : LeadAll s cs (was.codes ++ Number (own_number.0 + 1) ∷ []) (unread (length s.nodes.items)) read_then
  leads_then =
      lead_more s cs was.codes (Number (own_number.0 + 1)) (unread (length s.nodes.items)) was.read read_then was.leads (inl labelled)

  entries_then : read_then.entries ≡ new.entries
  entries_then = sym (ap (λ (w : Walked). w.entries) once.left)

  written_same : read_then.written ≡ new.written
  written_same =
      ap (λ k. written_then k n was.read.written) many
      ∙ ap (written_then (length (arguments_in s n)) n) was.written
      ∙ sym (ap (λ (w : Walked). w.written) once.left)

  written_new : new.written ≡ written_then (length (arguments_in s n)) n old.written
  written_new = ap (λ (w : Walked). w.written) once.left

  -- others are written as they were
  was_other : (m : ℕ) → (n ≡ m → ⊥) → slice_get new.written m ≡ slice_get old.written m
  was_other m apart =
      elim (cases_lt 0 (length (arguments_in s n))) [
        | inl some ↦
            ap (λ fs. slice_get fs m) (written_new ∙ some_taken (length (arguments_in s n)) old.written some n)
            ∙ flag_other old.written n m true apart
        | inr none ↦
            ap (λ fs. slice_get fs m) (written_new ∙ none_taken (length (arguments_in s n)) old.written (omega arith) n)
      ]

  was_unwritten : (m : ℕ) → slice_get new.written m ≡ Some false → slice_get old.written m ≡ Some false
  was_unwritten m at =
      elim (cases_lt 0 (length (arguments_in s n))) [
        | inl some ↦
            flag_was old.written n m
            (sym (ap (λ fs. slice_get fs m) (written_new ∙ some_taken (length (arguments_in s n)) old.written some n)) ∙ at)
        | inr none ↦
            sym (ap (λ fs. slice_get fs m) (written_new ∙ none_taken (length (arguments_in s n)) old.written (omega arith) n)) ∙ at
      ]

  was_written : (length (arguments_in s n) ≡ 0) ⊎ (slice_get l.again.items n ≡ Some true → ⊥) → (m : ℕ)
      → slice_get new.written m ≡ Some true → slice_get l.again.items m ≡ Some true → slice_get old.written m ≡ Some true
  was_written (inl none) m at is =
      sym (ap (λ fs. slice_get fs m) (written_new ∙ none_taken (length (arguments_in s n)) old.written none n)) ∙ at
  was_written (inr once-alone) m at is =
      elim (cases_same n m) [
        | inl same ↦ absurd (once-alone (ap (slice_get l.again.items) same ∙ is))
        | inr apart ↦ sym (was_other m apart) ∙ at
      ]

  -- one with no arguments, or that isn't put again, has no mark
  pub ended : (text : Vec ℕ Global) → LettersPut (record { codes = Number (own_number.0 + 1) ∷ []; front = 0 }) l.text.items text.items
      → (length (arguments_in s n) ≡ 0) ⊎ (slice_get l.again.items n ≡ Some true → ⊥) → IsLettered s cs (record l { text = text }) new
  ended text put why = record {
    codes = was.codes ++ Number (own_number.0 + 1) ∷ [];
    said = number_said l.text.items text.items was.codes (own_number.0 + 1) was.said put;
    read = read_then;
    leads = leads_then;
    entries = entries_then;
    written = written_same;
    many = was.many;
    marked = was.marked;
    count = was.count;
    mark = λ m at is. was.mark m (was_written why m at is) is;
    unmarked = λ m at. was.unmarked m (was_unwritten m at);
  }

  -- another one is marked
  module _ (some : 0 < length (arguments_in s n)) where
    first_none : slice_get old.written n ≡ Some false
    first_none = once.first some

    no_mark : slice_get l.marks.items n ≡ Some None
    no_mark = was.unmarked n first_none

    abbrev marked_read : Read
    marked_read = record read_then { marked = was.read.marked ++ n ∷ []; may_mark = false }

    marks : Marks read_then marked_read
    marks = record {
      front = once.front;
      node = n;
      split = refl;
      could = ap (nat_lt 0) many ∙ lt-ltb 0 (length (arguments_in s n)) some;
      left = refl;
    }

    marks_then : (ms : List (Option ℕ)) → ms ≡ set l.marks.items n (Some l.marked) → (m : ℕ)
        → slice_get new.written m ≡ Some true → slice_get l.again.items m ≡ Some true
        → (k : ℕ) × (slice_get ms m ≡ Some (Some k)) × (slice_get (was.read.marked ++ n ∷ []) k ≡ Some m)
    marks_then ms is m at again =
        elim (cases_same n m) [
          | inl same ↦ (
            l.marked,
            ap (λ ms. slice_get ms m) is
                ∙ subst (λ k. slice_get (set l.marks.items n (Some l.marked)) k ≡ Some (Some l.marked)) same
                (set_same l.marks.items n (Some l.marked) (slice_get_within l.marks.items n None no_mark)),
            ap (slice_get (was.read.marked ++ n ∷ [])) (sym was.marked) ∙ get_last was.read.marked n ∙ ap (λ k. Some k) same,
          )
          | inr apart ↦
              let old-mark = was.mark m (sym (was_other m apart) ∙ at) again in (
                old-mark.0,
                ap (λ ms. slice_get ms m) is ∙ flag_other l.marks.items n m (Some l.marked) apart ∙ old-mark.1,
                get_before was.read.marked n m old-mark.0 old-mark.2,
              )
        ]

    unmarked_then : (ms : List (Option ℕ)) → ms ≡ set l.marks.items n (Some l.marked) → (m : ℕ)
        → slice_get new.written m ≡ Some false → slice_get ms m ≡ Some None
    unmarked_then ms is m at =
        elim (cases_same n m) [
          | inl same ↦
              let within = slice_get_within old.written n false first_none in
              let yes' : slice_get new.written n ≡ Some true =
              ap (λ fs. slice_get fs n) (written_new ∙ some_taken (length (arguments_in s n)) old.written some n)
              ∙ set_same old.written n true within in
              let no' : slice_get new.written n ≡ Some false = ap (slice_get new.written) same ∙ at in
              absurd cc
          | inr apart ↦
              ap (λ ms. slice_get ms m) is
              ∙ flag_other l.marks.items n m (Some l.marked) apart
              ∙ was.unmarked m (was_unwritten m at)
        ]

    pub marked_too : (text text' : Vec ℕ Global) (ms : Vec (Option ℕ) Global) (count : ℕ)
        → LettersPut (record { codes = Number (own_number.0 + 1) ∷ []; front = 0 }) l.text.items text.items
        → text'.items ≡ text.items ++ 90 ∷ [] → ms.items ≡ set l.marks.items n (Some l.marked) → count ≡ l.marked + 1
        → IsLettered s cs (record l { text = text'; marks = ms; marked = count }) new
    marked_too text text' ms count put mark-put is one =
        let codes = was.codes ++ Number (own_number.0 + 1) ∷ [] in
        let long = length_push was.read.marked n in
        let more = count_more l.marks.items n l.marked no_mark in
        let same = ap (count_by is_some) is in
        record {
          codes = codes ++ Mark ∷ [];
          said =
              mark_said text.items text'.items codes (number_said l.text.items text.items was.codes (own_number.0 + 1) was.said put)
              mark-put;
          read = marked_read;
          leads = lead_more s cs codes Mark (unread (length s.nodes.items)) read_then marked_read leads_then marks;
          entries = entries_then;
          written = written_same;
          many = ap length is ∙ length-set l.marks.items n (Some l.marked) ∙ was.many;
          marked = omega (arith, long, was.marked, one);
          count = omega (arith, more, same, was.count, one);
          mark = marks_then ms.items is;
          unmarked = unmarked_then ms.items is;
        }

-- before the first node
pub none_lettered : (s : Shared) (cs : List CountedLabel) (l : Letters) → l.text.items ≡ []
    → l.marks.items ≡ replicate (length s.nodes.items) None → l.marked ≡ 0 → IsLettered s cs l (unwalked (length s.nodes.items))
none_lettered s cs l none without unmarked = record {
  codes = [];
  said = ap (decoded 0) none ∙ none_said;
  read = unread (length s.nodes.items);
  leads = refl;
  entries = refl;
  written = refl;
  many = ap length without ∙ length-replicate (length s.nodes.items) None;
  marked = sym unmarked;
  count = unmarked ∙ sym (ap (count_by is_some) without ∙ none_counted (length s.nodes.items));
  mark = λ n at is. absurd (none_set (length s.nodes.items) n at);
  unmarked = λ n at.
      ap (λ ms. slice_get ms n) without
      ∙ none_there (length s.nodes.items) n (slice_get_within (replicate (length s.nodes.items) false) n false at);
}

-- a node that is put is there
pub put_there : (s : Shared) (n : ℕ) (again : Bool) (old new : Walked) → IsPut s n again old new → n < length s.nodes.items
put_there s n false old new is = is.there
put_there s n true old new is = is.there

-- the next of those that are put
pub put_by : (s : Shared) (puts : List Put) (i : ℕ) (d : Put) (old end : Walked) → i < length puts → ArePut s (drop i puts) old end
    → (mid : Walked) × IsPut s (get_or puts i d).node (get_or puts i d).is_again old mid × ArePut s (drop (i + 1) puts) mid end
put_by s puts i d old end within are = subst (λ rest. ArePut s rest old end) (drop_more puts i d within) are
