-- Expressions that lie in one list of symbols stay where they are when more come behind them.
use Rattle.std.proofs.Common.{◌≡◌, ℕ, zero, suc, ◌+◌, ◌-◌, ◌<◌, ◌≤◌, List, [], ◌∷◌, ◌++◌, length, drop, take, get_or, refl, sym, ap}
use Rattle.std.proofs.Common.{◌∙◌, inl, inr, arith}
use Rattle.std.specs.Prelude.{slice_range}
use Rattle.std.proofs.Math.Seq.{take-length, drop-append_seam}
use Rattle.std.proofs.lemmas.List.{take-append-le, drop-append-le, length-drop, length-take-le, take-append-drop, get_or-take, get_or-map, length-map, map-append}
use Rattle.std.proofs.lemmas.Bool.{cases_lt}
use Rattle.std.proofs.lemmas.List.{length-append, get_or_append_left, get_or-append_right}
use Rattle.std.proofs.lemmas.List.Elements.{All-push}
use Rattle.std.proofs.lemmas.List.{take-map}
use Rattle.mmsyntax.specs.declared.statement.Symbol.{Symbol}
use Rattle.stepcheck.specs.declared.stack.Entry.{Entry}
use Rattle.stepcheck.specs.declared.stack.Entry.TheVariants.{Own, Lent}
use Rattle.stepcheck.specs.Spans.{shown, start, end, cut, AreSpans, AreWithin}

-- a part is the same where more stands behind
range-more : (s e : List Symbol) (a b : ℕ) → a ≤ b → b ≤ length s → slice_range (s ++ e) a b ≡ slice_range s a b
range-more s e a b le within =
    let low : a ≤ length s = omega arith in
    let room : b - a ≤ length (drop a s) = omega (arith, length-drop a s) in
    ap (take (b - a)) (drop-append-le a s e low) ∙ take-append-le (b - a) (drop a s) e room

shown-more : (s e : List Symbol) (p : Entry) → start p ≤ end p → end p ≤ length s → shown (s ++ e) p ≡ shown s p
shown-more s e (Own a b) le within = range-more s e a b le within
shown-more s e (Lent a l) le within = refl

pub cut-more : (s e : List Symbol) (ps : List Entry) → AreWithin (length s) ps → cut (s ++ e) ps ≡ cut s ps
cut-more s e [] h = refl
cut-more s e (p ∷ ps) h =
    let here = h zero p (omega arith) in
    let first = shown-more s e p here.0 here.1 in
    let rest = cut-more s e ps (λ k d lt. h (suc k) d (omega arith)) in
    cc

-- the expression at a place
pub shown-at : (s : List Symbol) (ps : List Entry) (es : List (List Symbol)) (i : ℕ) (p d : Entry) (e : List Symbol) → cut s ps ≡ es
    → i < length es → get_or ps i d ≡ p → shown s p ≡ e → e ≡ get_or es i e
shown-at s ps es i p d e view lt at is =
    let long : i < length ps = omega (arith, lt, ap length view, length-map ps (shown s)) in
    sym is ∙ ap (shown s) (sym at) ∙ sym (get_or-map (shown s) ps i d e long) ∙ ap (λ (l : List (List Symbol)). get_or l i e) view

-- one more expression on top
pub cut-push : (s e : List Symbol) (ps : List Entry) → AreWithin (length s) ps
    → cut (s ++ e) (ps ++ Own (length s) (length s + length e) ∷ []) ≡ cut s ps ++ e ∷ []
cut-push s e ps h =
    let more : length s + length e - length s ≡ length e = omega arith in
    let top : slice_range (s ++ e) (length s) (length s + length e) ≡ e =
    ap (λ l. take (length s + length e - length s) l) (drop-append_seam s e) ∙ ap (λ n. take n e) more ∙ take-length e in
    map-append (shown (s ++ e)) ps (Own (length s) (length s + length e) ∷ [])
    ∙ ap (λ l. l ++ slice_range (s ++ e) (length s) (length s + length e) ∷ []) (cut-more s e ps h)
    ∙ ap (λ x. cut s ps ++ x ∷ []) top

-- the first expressions end where the next begins
front-within : (s : List Symbol) (ps : List Entry) (n : ℕ) (d : Entry) → AreSpans (length s) ps → n < length ps
    → AreWithin (length (take (start (get_or ps n d)) s)) (take n ps)
front-within s ps n d h lt = λ k e below.
    let short : length (take n ps) ≡ n = length-take-le n ps (omega arith) in
    let low : k < n = omega arith in
    let next = h.within n d lt in
    let long : length (take (start (get_or ps n d)) s) ≡ start (get_or ps n d) = length-take-le (start (get_or ps n d)) s (omega arith) in
    let here = h.within k d (omega arith) in
    let same : get_or (take n ps) k e ≡ get_or ps k d = get_or-take n ps k e low ∙ get_or-any ps k e d (omega arith) in
    let ends = h.apart k n d low lt in
    rw (same, long) (here.0, ends)
  where
    get_or-any : (xs : List Entry) (i : ℕ) (x y : Entry) → i < length xs → get_or xs i x ≡ get_or xs i y
    get_or-any [] i x y less = absurd (omega arith)
    get_or-any (z ∷ zs) zero x y less = refl
    get_or-any (z ∷ zs) (suc i) x y less = get_or-any zs i x y (omega arith)

pub spans-front : (s : List Symbol) (ps : List Entry) (n : ℕ) (d : Entry) → AreSpans (length s) ps → n < length ps
    → AreSpans (length (take (start (get_or ps n d)) s)) (take n ps)
spans-front s ps n d h lt = record {
  within = front-within s ps n d h lt;
  apart = λ j k e less below.
      let short : length (take n ps) ≡ n = length-take-le n ps (omega arith) in
      rw (get_or-take n ps j e (omega arith), get_or-take n ps k e (omega arith)) (h.apart j k e less (omega arith));
}

pub cut-front : (s : List Symbol) (ps : List Entry) (n : ℕ) (d : Entry) → AreSpans (length s) ps → n < length ps
    → cut (take (start (get_or ps n d)) s) (take n ps) ≡ take n (cut s ps)
cut-front s ps n d h lt =
    let c = start (get_or ps n d) in
    let whole : take c s ++ drop c s ≡ s = take-append-drop c s in
    sym (cut-more (take c s) (drop c s) (take n ps) (front-within s ps n d h lt))
    ∙ ap (λ l. cut l (take n ps)) whole
    ∙ sym (take-map (shown s) n ps)

-- a list of one
only-one : {X : Type 0} (xs : List X) (x : X) → length xs ≡ 1 → x ≡ get_or xs 0 x → xs ≡ x ∷ []
only-one [] x n is = cc
only-one (y ∷ []) x n is = ap (λ z. z ∷ []) (sym is)
only-one (y ∷ z ∷ zs) x n is = absurd (omega arith)

-- the last of a list of one
pub last-alone : {X : Type 0} (left last : List X) (x : X) → length left ≡ 1 → last ≡ drop (length left - 1) left → x ≡ get_or last 0 x
    → left ≡ x ∷ []
last-alone left last x one is at =
    only-one left x one (at ∙ ap (λ l. get_or l 0 x) (is ∙ ap (λ n. drop (n - 1) left) one))

-- as many symbols, or more
pub spans-more : (n m : ℕ) (ps : List Entry) → n ≤ m → AreSpans n ps → AreSpans m ps
spans-more n m ps le h =
    record {
      within = λ k d lt. (let here = h.within k d lt in let ends = here.1 in (here.0, omega (arith, ends, le)));
      apart = h.apart;
    }

-- one more behind all of them
pub spans-push : (n m : ℕ) (ps : List Entry) (p : Entry) → AreSpans n ps → n ≤ start p → start p ≤ end p → end p ≤ m
    → AreSpans m (ps ++ p ∷ [])
spans-push n m ps p h behind some within =
    record {
      within = All-push (λ e. (start e ≤ end e)
          × (end e ≤ m)) ps p (spans-more n m ps (omega (arith, behind, some, within)) h).within (some, within);
      apart = λ j k d less below.
          let size = length-append ps (p ∷ []) in
          let first = get_or_append_left ps (p ∷ []) d j (omega (arith, size, less, below)) in
          elim (cases_lt k (length ps)) [
            | inl inside ↦ rw (first, get_or_append_left ps (p ∷ []) d k inside) (h.apart j k d less inside)
            | inr last ↦
                let at : k - length ps ≡ 0 = omega (arith, size, below, last) in
                let second = get_or-append_right ps (p ∷ []) (length ps) k d refl last ∙ ap (λ i. get_or (p ∷ []) i d) at in
                let ends = (h.within j d (omega (arith, size, less, below))).1 in
                rw (first, second) (omega (arith, ends, behind))
          ];
    }
