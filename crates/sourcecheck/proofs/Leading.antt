-- What a step over numbers does is what the rules say of the words that they stand for.
use Rattle.std.proofs.Common.{◌≡◌, ℕ, zero, suc, ◌-◌, ◌<◌, ◌≤◌, List, [], ◌∷◌, ◌++◌, length, map, take, drop, refl, sym, ap}
use Rattle.std.proofs.Common.{◌∙◌, append_assoc, append-nil, arith}
use Rattle.std.specs.Prelude.{reverse, slice_get, find, Option, Some, None, Ok, if◌then◌else◌}
use Rattle.std.specs.Option.{option_map, option_and_then}
use Rattle.std.specs.Str.{bytes_eq}
use Rattle.std.proofs.lemmas.List.{take-map, drop-map, length-map, map-append, length-reverse, length-take-le}
use Rattle.std.proofs.lemmas.Option.{slice_get-map}
use Rattle.mmtext.specs.Words.{Word}
use Rattle.mmsyntax.proofs.Items.{not_found_is_none}
use Rattle.derivation.specs.declared.fault.ProofFaultKind.{ProofFaultKind}
use Rattle.derivation.specs.declared.fault.ProofFaultKind.TheVariants.{UnknownStep, StackShort, WrongType, HypothesisDiffers, NotDisjoint}
use Rattle.derivation.specs.declared.fault.ProofFaultKind.TheVariants.{NotOneLeft, StatementDiffers, TooLong, NoMemory}
use Rattle.source.specs.Scopes.{Hypothesis, label_of, Assertion}
use Rattle.source.specs.Proofs.{Stack, names, again, marks, numbered, taken_by, pop, put, push, cite, repeat, mark, stepped}
use Rattle.taking.proofs.Turned.{turned_map}
use Rattle.taking.proofs.Stacked.{short}
use Rattle.verifying.specs.Citations.{said_by}
use Rattle.verifying.specs.Verifies.{entry}
use Rattle.verifying.specs.Faults.{last_failure}
use Rattle.verifying.proofs.Verified.{hypotheses_are_put, citations_are_put}
use Rattle.sourceframes.specs.declared.frame.Frame.{Frame}
use Rattle.sourceframes.specs.declared.thesis.Thesis.{Thesis}
use Rattle.sourcecheck.specs.Coded.{coded, lasts, IsCited, FailsTest, FailsToCite}
use Rattle.sourceframes.specs.Frames.{IsFrameOf}
use Rattle.sourcecheck.specs.Shown.{shown_entry, shown, Stands, FailsBy}
use Rattle.sourcecheck.specs.Spans.{Sheet, last_length}
use Rattle.sourcecheck.specs.Written.{symbols_of, symbols_of_last, written_at}
use Rattle.sourcecheck.proofs.Spans.{reverse-cons}
use Rattle.sourcecheck.proofs.Filling.{over_words, cited_named}

-- ---- what is written down

-- the last expression has as many words as numbers
pub last_shown : (name : ℕ → Word) (es : List (List ℕ)) → symbols_of_last (map (shown_entry name) es) ≡ last_length es
last_shown name [] = refl
last_shown name (e ∷ es) = length-map e name

-- ---- what comes off

pop_takes : {A : Type 0} (hs : List Hypothesis) (xs off : List A) → length hs ≤ length xs
    → pop hs xs off ≡ Some (reverse (take (length hs) xs) ++ off, drop (length hs) xs)
pop_takes [] xs off le = refl
pop_takes (h ∷ hs) [] off le = absurd (omega arith)
pop_takes {A} (h ∷ hs) (x ∷ xs) off le =
    let rest = drop (length hs) xs in
    let turned = reverse (take (length hs) xs) in
    let pair : List A → Option (List A × List A) = λ l. Some (l, rest) in
    pop_takes hs xs (x ∷ off) (omega arith)
    ∙ ap pair (sym (append_assoc turned (x ∷ []) off))
    ∙ ap (λ l. pair (l ++ off)) (sym (reverse-cons (take (length hs) xs) x))

twice : (name : ℕ → Word) (es : List (List ℕ)) → map (shown_entry name) es ≡ map (λ e. Ok e) (map (map name) es)
twice name [] = refl
twice name (e ∷ es) = ap (λ l. Ok (map name e) ∷ l) (twice name es)

module _ (name : ℕ → Word) (earlier : List Assertion) (x : Assertion) where
  -- ---- a hypothesis

  pub hypothesis_leads : (w : Word) (h : Hypothesis) (said : List ℕ) (old : Stack (List ℕ))
      → find (λ h. bytes_eq w (label_of h)) x.active ≡ Some h → map name said ≡ said_by h
      → stepped (entry earlier x) earlier x.active (shown name old) (names w) ≡ Some (shown name (push old said))
  hypothesis_leads w h said old found is =
      hypotheses_are_put earlier x (shown name old) w h found ∙ ap (λ e. Some (push (shown name old) (Ok e))) (sym is)

  -- ---- a citation

  module _ (fs : List Frame) (t : Thesis) (stands : Stands name earlier x fs t) (w : Word) (c : Assertion) (f : Frame)
      (none : find (λ h. bytes_eq w (label_of h)) x.active ≡ None) (found : find (λ c. bytes_eq w c.label) earlier ≡ Some c)
      (is : IsFrameOf name f c) where
    n : ℕ
    n = length f.demands.items

    as_long : length c.hypotheses ≡ length f.demands.items
    as_long = sym (length-map c.hypotheses _) ∙ ap length (sym is.demands) ∙ length-map f.demands.items _

    taken_is : taken_by earlier x.active w ≡ Some c.hypotheses
    taken_is =
        ap (λ b. if b then Some [] else option_map (λ (a : Assertion). a.hypotheses) (find (λ a. bytes_eq w a.label) earlier))
        (not_found_is_none (λ h. bytes_eq w (label_of h)) x.active none)
        ∙ ap (option_map (λ (a : Assertion). a.hypotheses)) found

    -- what is left below, and what comes off
    popped : (old : Stack (List ℕ)) → length f.demands.items ≤ length old.entries
        → pop c.hypotheses (map (shown_entry name) old.entries) []
        ≡ Some (
          map (λ e. Ok e) (map (map name) (lasts (length f.demands.items) old)),
          map (shown_entry name) (drop (length f.demands.items) old.entries),
        )
    popped old le =
        let es = map (shown_entry name) old.entries in
        let k = length f.demands.items in
        let long : length es ≡ length old.entries = length-map old.entries (shown_entry name) in
        let off : reverse (take k es) ++ [] ≡ map (λ e. Ok e) (map (map name) (lasts k old)) =
        append-nil (reverse (take k es)) ∙ ap reverse (take-map (shown_entry name) k old.entries)
        ∙ sym (turned_map (shown_entry name) (take k old.entries)) ∙ twice name (lasts k old) in
        pop_takes c.hypotheses es [] (omega (arith, as_long, long, le))
        ∙ ap (λ m. Some (reverse (take m es) ++ [], drop m es)) as_long
        ∙ ap (λ l. Some (l, drop k es)) off
        ∙ ap (λ l. Some (map (λ e. Ok e) (map (map name) (lasts k old)), l)) (drop-map (shown_entry name) k old.entries)

    gives : (old : Stack (List ℕ)) → length f.demands.items ≤ length old.entries
        → stepped (entry earlier x) earlier x.active (shown name old) (names w)
        ≡ Some (record {
          entries = over_words name (coded t f (lasts (length f.demands.items) old))
              ∷ map (shown_entry name) (drop (length f.demands.items) old.entries);
          marked = map (shown_entry name) old.marked;
        })
    gives old le =
        let k = length f.demands.items in
        let args = lasts k old in
        let below = map (shown_entry name) (drop k old.entries) in
        let many : length c.hypotheses ≡ length (map (map name) args) =
        omega (arith, as_long, le, length-map args (map name), args_long old le) in
        citations_are_put earlier x (shown name old) w c (map (map name) args) below none found (popped old le)
        ∙ ap (λ e. Some (record { entries = e ∷ below; marked = map (shown_entry name) old.marked }))
        (cited_named name stands.injective x t stands.thesis c f args is many)
      where
        args_long : (old : Stack (List ℕ)) → length f.demands.items ≤ length old.entries
            → length (lasts (length f.demands.items) old) ≡ length f.demands.items
        args_long old le =
            length-reverse (take (length f.demands.items) old.entries) ∙ length-take-le (length f.demands.items) old.entries le

    pub citation_leads : (old new : Stack (List ℕ)) → IsCited t f old new
        → stepped (entry earlier x) earlier x.active (shown name old) (names w) ≡ Some (shown name new)
    citation_leads old new h =
        let k = length f.demands.items in
        gives old h.enough
        ∙ ap (λ r. Some (record {
          entries = over_words name r ∷ map (shown_entry name) (drop k old.entries);
          marked = map (shown_entry name) old.marked;
        })) h.gives
        ∙ ap (λ s. Some (shown name s)) (sym h.new_is)

    failed_by : (old : Stack (List ℕ)) (kind : ProofFaultKind) → FailsTest t f old kind
        → option_and_then (λ s. last_failure s.entries) (stepped (entry earlier x) earlier x.active (shown name old) (names w)) ≡ Some kind
    failed_by old kind h =
        ap (option_and_then (λ s. last_failure s.entries)) (gives old h.0)
        ∙ ap (λ r. last_failure (over_words name r ∷ map (shown_entry name) (drop (length f.demands.items) old.entries))) h.1

    too_few : (old : Stack (List ℕ)) → length old.entries < length f.demands.items
        → stepped (entry earlier x) earlier x.active (shown name old) (names w) ≡ None
    too_few old lt =
        ap (cite (entry earlier x) w (shown name old)) taken_is
        ∙ ap (put (entry earlier x) w (map (shown_entry name) old.marked))
        (short c.hypotheses (map (shown_entry name) old.entries) []
        (omega (arith, as_long, lt, length-map old.entries (shown_entry name))))

    -- what is made is written down
    made_written : (old : Stack (List ℕ)) (made : List ℕ) → length f.demands.items ≤ length old.entries
        → coded t f (lasts (length f.demands.items) old) ≡ Ok made
        → written_at (names w) (stepped (entry earlier x) earlier x.active (shown name old) (names w)) ≡ length made
    made_written old made le is =
        ap (written_at (names w)) (gives old le) ∙ ap (λ r. symbols_of (over_words name r)) is ∙ length-map made name

    pub citation_fails : (old : Sheet) (kind : ProofFaultKind) → FailsToCite t f old kind
        → FailsBy old.written (names w) (stepped (entry earlier x) earlier x.active (shown name old.stack) (names w)) kind
    citation_fails old NoMemory h = tt
    citation_fails old TooLong h = let size = made_written old.stack h.made h.enough h.gives in omega (arith, size, h.long)
    citation_fails old StackShort h = too_few old.stack h
    citation_fails old WrongType h = failed_by old.stack WrongType h
    citation_fails old HypothesisDiffers h = failed_by old.stack HypothesisDiffers h
    citation_fails old NotDisjoint h = failed_by old.stack NotDisjoint h
    citation_fails old UnknownStep h = absurd h
    citation_fails old NotOneLeft h = absurd h
    citation_fails old StatementDiffers h = absurd h

  -- ---- marks

  pub mark_shown : (s : Stack (List ℕ)) (o : Option (Stack (List ℕ))) → mark s.entries s.marked ≡ o
      → stepped (entry earlier x) earlier x.active (shown name s) marks ≡ option_map (shown name) o
  mark_shown s o e = of s.entries ∙ ap (option_map (shown name)) e
    where
      of : (es : List (List ℕ)) → mark (map (shown_entry name) es) (map (shown_entry name) s.marked)
          ≡ option_map (shown name) (mark es s.marked)
      of [] = refl
      of (e ∷ es) =
          ap (λ m. Some (record { entries = map (shown_entry name) (e ∷ es); marked = m }))
          (sym (map-append (shown_entry name) s.marked (e ∷ [])))

  pub repeat_shown : (s : Stack (List ℕ)) (n : ℕ) (o : Option (Stack (List ℕ))) → repeat s (slice_get s.marked n) ≡ o
      → stepped (entry earlier x) earlier x.active (shown name s) (again n) ≡ option_map (shown name) o
  repeat_shown s n o e =
      ap (repeat (shown name s)) (slice_get-map (shown_entry name) s.marked n)
      ∙ of (slice_get s.marked n) ∙ ap (option_map (shown name)) e
    where
      of : (z : Option (List ℕ)) → repeat (shown name s) (option_map (shown_entry name) z) ≡ option_map (shown name) (repeat s z)
      of None = refl
      of (Some z) = refl

-- ---- numbers

pub number_again : (ws : List Word) (k : ℕ) → length ws ≤ k → numbered ws k ≡ again (k - length ws)
number_again [] k le = ap again (let e : k ≡ k - 0 = omega arith in e)
number_again (w ∷ ws) zero le = absurd (omega arith)
number_again (w ∷ ws) (suc k) le =
    let e : k - length ws ≡ suc k - suc (length ws) = omega arith in number_again ws k (omega arith) ∙ ap again e
