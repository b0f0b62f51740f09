-- Expressions that lie in one list of symbols stay what they are when more come behind them.
use Rattle.std.proofs.Common.{◌≡◌, ℕ, zero, suc, ◌+◌, ◌-◌, ◌<◌, ◌≤◌, List, [], ◌∷◌, ◌++◌, length, drop, take, get_or, refl, sym, ap}
use Rattle.std.proofs.Common.{◌∙◌, arith}
use Rattle.std.specs.Prelude.{slice_range, slice_get, slice_index_or, reverse, Some}
use Rattle.std.proofs.Math.Seq.{take-length, take-append_seam, drop-append_seam}
use Rattle.std.proofs.Common.{append_assoc, append-nil}
use Rattle.std.specs.Option.{option_map}
use Rattle.std.proofs.lemmas.List.{length-drop, map-append, reverse-append, reverse-reverse, take-append-drop}
use Rattle.std.proofs.lemmas.List.{take_more, take-map, drop-map, length-map, length-append, length-reverse}
use Rattle.std.proofs.lemmas.List.Elements.{All-take}
use Rattle.std.proofs.lemmas.Option.{slice_get-map}
use Rattle.std.proofs.lemmas.Grind.{flat_map-append}
use Rattle.source.specs.Proofs.{Stack, push, mark, repeat}
use Rattle.taking.proofs.Kept.{range_front}
use Rattle.sourceframes.specs.declared.frame.Piece.{Piece}
use Rattle.sourcecheck.specs.Spans.{cut, AreWithin}
use Rattle.sourcecheck.specs.Coded.{IsRefusal, piece_value, filled}
use Rattle.derivation.specs.declared.fault.ProofFaultKind.{ProofFaultKind}
use Rattle.derivation.specs.declared.fault.ProofFaultKind.TheVariants.{UnknownStep, StackShort, WrongType, HypothesisDiffers, NotDisjoint}
use Rattle.derivation.specs.declared.fault.ProofFaultKind.TheVariants.{NotOneLeft, StatementDiffers, TooLong, NoMemory}

pub cut-more : (s e : List ℕ) (ps : List (ℕ × ℕ)) → AreWithin (length s) ps → cut (s ++ e) ps ≡ cut s ps
cut-more s e [] h = refl
cut-more s e (p ∷ ps) h =
    let here = h zero p (omega arith) in
    let first = range_front s e p.0 p.1 here.0 here.1 in
    let rest = cut-more s e ps (λ k d lt. h (suc k) d (omega arith)) in
    cc

-- one more behind
pub cut-push : (s e : List ℕ) (ps : List (ℕ × ℕ)) → AreWithin (length s) ps
    → cut (s ++ e) (ps ++ (length s, length s + length e) ∷ []) ≡ cut s ps ++ e ∷ []
cut-push s e ps h =
    let more : length s + length e - length s ≡ length e = omega arith in
    let top : slice_range (s ++ e) (length s) (length s + length e) ≡ e =
    ap (λ l. take (length s + length e - length s) l) (drop-append_seam s e) ∙ ap (λ n. take n e) more ∙ take-length e in
    map-append (λ p. slice_range (s ++ e) p.0 p.1) ps ((length s, length s + length e) ∷ [])
    ∙ ap (λ l. l ++ slice_range (s ++ e) (length s) (length s + length e) ∷ []) (cut-more s e ps h)
    ∙ ap (λ x. cut s ps ++ x ∷ []) top

-- the last one comes first
pub reverse-push : {A : Type 0} (xs : List A) (x : A) → reverse (xs ++ x ∷ []) ≡ x ∷ reverse xs
reverse-push xs x = reverse-append xs (x ∷ [])

pub reverse-cons : {A : Type 0} (xs : List A) (x : A) → reverse (x ∷ xs) ≡ reverse xs ++ x ∷ []
reverse-cons xs x = reverse-append (x ∷ []) xs

-- the stack that lists of symbols and parts show
abbrev pub seen : List ℕ → List (ℕ × ℕ) → List (ℕ × ℕ) → Stack (List ℕ)
seen s ps ms = record { entries = reverse (cut s ps); marked = cut s ms }

pub seen-push : (s e : List ℕ) (ps ms : List (ℕ × ℕ)) → AreWithin (length s) ps → AreWithin (length s) ms
    → seen (s ++ e) (ps ++ (length s, length s + length e) ∷ []) ms ≡ push (seen s ps ms) e
seen-push s e ps ms h k =
    ap (λ es. record { entries = reverse es; marked = cut (s ++ e) ms }) (cut-push s e ps h)
    ∙ ap (λ es. record { entries = es; marked = cut (s ++ e) ms }) (reverse-push (cut s ps) e)
    ∙ ap (λ m. record { entries = e ∷ reverse (cut s ps); marked = m }) (cut-more s e ms k)

-- ---- marks

-- the last of parts
pub last-of : {A : Type 0} (xs : List A) (d : A) → 0 < length xs → (ys : List A) × (xs ≡ ys ++ get_or xs (length xs - 1) d ∷ [])
last-of [] d h = absurd (omega arith)
last-of (x ∷ []) d h = ([], refl)
last-of (x ∷ y ∷ zs) d h =
    let rest = last-of (y ∷ zs) d (omega arith) in
    let same : length (x ∷ y ∷ zs) - 1 ≡ suc (length (y ∷ zs) - 1) = omega arith in
    (x ∷ rest.0, ap (λ l. x ∷ l) rest.1 ∙ ap (λ n. x ∷ rest.0 ++ get_or (x ∷ y ∷ zs) n d ∷ []) (sym same))

mark-of : (s : List ℕ) (ps ms qs : List (ℕ × ℕ)) (p : ℕ × ℕ) → ps ≡ qs ++ p ∷ []
    → mark (reverse (cut s ps)) (cut s ms) ≡ Some (seen s ps (ms ++ p ∷ []))
mark-of s ps ms qs p e =
    let f : ℕ × ℕ → List ℕ = λ q. slice_range s q.0 q.1 in
    let turned : reverse (cut s ps) ≡ f p ∷ reverse (cut s qs) =
    ap (λ l. reverse (cut s l)) e ∙ ap reverse (map-append f qs (p ∷ [])) ∙ reverse-push (cut s qs) (f p) in
    ap (λ l. mark l (cut s ms)) turned
    ∙ ap (λ m. Some (record { entries = f p ∷ reverse (cut s qs); marked = m })) (sym (map-append f ms (p ∷ [])))
    ∙ ap (λ l. Some (record { entries = l; marked = cut s (ms ++ p ∷ []) })) (sym turned)

pub seen-mark : (s : List ℕ) (ps ms : List (ℕ × ℕ)) (p : ℕ × ℕ) → 0 < length ps → p ≡ get_or ps (length ps - 1) p
    → mark (reverse (cut s ps)) (cut s ms) ≡ Some (seen s ps (ms ++ p ∷ []))
seen-mark s ps ms p h at =
    let l = last-of ps p h in mark-of s ps ms l.0 p (l.1 ∙ ap (λ q. l.0 ++ q ∷ []) (sym at))

-- a part again
pub seen-again : (s : List ℕ) (ps ms : List (ℕ × ℕ)) (p : ℕ × ℕ)
    → seen s (ps ++ p ∷ []) ms ≡ push (seen s ps ms) (slice_range s p.0 p.1)
seen-again s ps ms p =
    let f : ℕ × ℕ → List ℕ = λ q. slice_range s q.0 q.1 in
    ap (λ l. record { entries = reverse l; marked = cut s ms }) (map-append f ps (p ∷ []))
    ∙ ap (λ l. record { entries = l; marked = cut s ms }) (reverse-push (cut s ps) (f p))

pub seen-repeat : (s : List ℕ) (ps ms : List (ℕ × ℕ)) (n : ℕ) (p : ℕ × ℕ) → slice_get ms n ≡ Some p
    → repeat (seen s ps ms) (slice_get (cut s ms) n) ≡ Some (seen s (ps ++ p ∷ []) ms)
seen-repeat s ps ms n p at =
    let f : ℕ × ℕ → List ℕ = λ q. slice_range s q.0 q.1 in
    ap (repeat (seen s ps ms)) (slice_get-map f ms n ∙ ap (option_map f) at) ∙ ap (λ z. Some z) (sym (seen-again s ps ms p))

-- ---- what pieces make

-- the expression at a place
pub value-at : (s : List ℕ) (ps : List (ℕ × ℕ)) (k : ℕ) (p : ℕ × ℕ) → slice_get ps k ≡ Some p → slice_index_or (cut s ps) k []
    ≡ slice_range s p.0 p.1
value-at s [] k p h = absurd cc
value-at s (q ∷ ps) zero p h = let e : q ≡ p = cc in ap (λ (r : ℕ × ℕ). slice_range s r.0 r.1) e
value-at s (q ∷ ps) (suc k) p h = value-at s ps k p h

pub filled-one : (s now new : List ℕ) (ps : List (ℕ × ℕ)) (pieces : List Piece) (i : ℕ) (d : Piece) → AreWithin (length s) ps
    → i < length pieces → now ≡ s ++ filled (cut s ps) (take i pieces) → new ≡ now ++ piece_value (cut now ps) (get_or pieces i d)
    → new ≡ s ++ filled (cut s ps) (take (i + 1) pieces)
filled-one s now new ps pieces i d h lt now-is new-is =
    let made = filled (cut s ps) (take i pieces) in
    let v : List (List ℕ) → List ℕ = λ es. piece_value es (get_or pieces i d) in
    new-is
    ∙ ap (λ z. z ++ v (cut z ps)) now-is
    ∙ ap (λ es. (s ++ made) ++ v es) (cut-more s made ps h)
    ∙ append_assoc s made (v (cut s ps))
    ∙ ap (λ z. s ++ (made ++ z)) (sym (append-nil (v (cut s ps))))
    ∙ ap (λ z. s ++ z) (sym (flat_map-append (piece_value (cut s ps)) (take i pieces) (get_or pieces i d ∷ [])))
    ∙ ap (λ l. s ++ filled (cut s ps) l) (sym (take_more pieces i d lt))

-- so many symbols are there with one more value, and no more than with all
pub filled-within : (s now : List ℕ) (ps : List (ℕ × ℕ)) (pieces : List Piece) (i : ℕ) (d : Piece) → AreWithin (length s) ps
    → i < length pieces → now ≡ s ++ filled (cut s ps) (take i pieces)
    → length now + length (piece_value (cut now ps) (get_or pieces i d)) ≤ length s + length (filled (cut s ps) pieces)
filled-within s now ps pieces i d h lt is =
    let v = piece_value (cut now ps) (get_or pieces i d) in
    let front = filled (cut s ps) (take (i + 1) pieces) in
    let back = filled (cut s ps) (drop (i + 1) pieces) in
    let one : now ++ v ≡ s ++ front = filled-one s now (now ++ v) ps pieces i d h lt is refl in
    let all : filled (cut s ps) pieces ≡ front ++ back =
    ap (filled (cut s ps)) (sym (take-append-drop (i + 1) pieces))
    ∙ flat_map-append (piece_value (cut s ps)) (take (i + 1) pieces) (drop (i + 1) pieces) in
    let size = ap length one in
    let whole = ap length all in
    omega (arith, size, whole, length-append now v, length-append s front, length-append front back)

-- a refusal for want of room behind some symbols is one behind more
pub refused-more : (a b : ℕ) (kind : ProofFaultKind) → a ≤ b → IsRefusal a kind → IsRefusal b kind
refused-more a b NoMemory le h = tt
refused-more a b TooLong le h = omega (arith, le, h)
refused-more a b UnknownStep le h = absurd h
refused-more a b StackShort le h = absurd h
refused-more a b WrongType le h = absurd h
refused-more a b HypothesisDiffers le h = absurd h
refused-more a b NotDisjoint le h = absurd h
refused-more a b NotOneLeft le h = absurd h
refused-more a b StatementDiffers le h = absurd h

-- ---- the last of a stack

parted : {A : Type 0} (xs : List A) (n : ℕ) → n ≤ length xs → take (length xs - n) xs ++ drop (length xs - n) xs ≡ xs
parted xs n h = take-append-drop (length xs - n) xs

pub turned-front : {A : Type 0} (xs : List A) (n : ℕ) → n ≤ length xs → reverse (take n (reverse xs)) ≡ drop (length xs - n) xs
turned-front xs n h =
    let back = drop (length xs - n) xs in
    let front = take (length xs - n) xs in
    let long : length (reverse back) ≡ n = omega (arith, length-reverse back, length-drop (length xs - n) xs, h) in
    let same : take n (reverse back ++ reverse front) ≡ reverse back =
    ap (λ k. take k (reverse back ++ reverse front)) (sym long) ∙ take-append_seam (reverse back) (reverse front) in
    ap (λ l. reverse (take n (reverse l))) (sym (parted xs n h)) ∙ ap (λ l. reverse (take n l)) (reverse-append front back)
    ∙ ap reverse same ∙ reverse-reverse back

pub turned-back : {A : Type 0} (xs : List A) (n : ℕ) → n ≤ length xs → drop n (reverse xs) ≡ reverse (take (length xs - n) xs)
turned-back xs n h =
    let back = drop (length xs - n) xs in
    let front = take (length xs - n) xs in
    let long : length (reverse back) ≡ n = omega (arith, length-reverse back, length-drop (length xs - n) xs, h) in
    ap (λ l. drop n (reverse l)) (sym (parted xs n h)) ∙ ap (drop n) (reverse-append front back)
    ∙ ap (λ k. drop k (reverse back ++ reverse front)) (sym long) ∙ drop-append_seam (reverse back) (reverse front)

within-front : (n k : ℕ) (ps : List (ℕ × ℕ)) → AreWithin n ps → AreWithin n (take k ps)
within-front n k ps h = All-take (λ p. (p.0 ≤ p.1) × (p.1 ≤ n)) k ps h

-- the last parts are the last expressions
pub last-cut : (s : List ℕ) (ps : List (ℕ × ℕ)) (n : ℕ) → n ≤ length ps
    → cut s (drop (length ps - n) ps) ≡ reverse (take n (reverse (cut s ps)))
last-cut s ps n le =
    let f : ℕ × ℕ → List ℕ = λ q. slice_range s q.0 q.1 in
    let same : length (cut s ps) ≡ length ps = length-map ps f in
    let within : n ≤ length (cut s ps) = omega (arith, same, le) in
    sym (drop-map f (length ps - n) ps) ∙ ap (λ m. drop (m - n) (cut s ps)) (sym same) ∙ sym (turned-front (cut s ps) n within)

-- what pieces make of the last ones in their place
pub seen-conclude : (s new : List ℕ) (ps ms : List (ℕ × ℕ)) (pieces : List Piece) (n : ℕ) → AreWithin (length s) ps
    → AreWithin (length s) ms → n ≤ length ps → new ≡ s ++ filled (cut s (drop (length ps - n) ps)) pieces
    → seen new (take (length ps - n) ps ++ (length s, length new) ∷ []) ms
    ≡ record {
      entries = filled (reverse (take n (reverse (cut s ps)))) pieces ∷ drop n (reverse (cut s ps));
      marked = cut s ms;
    }
seen-conclude s new ps ms pieces n h k le is =
    let f : ℕ × ℕ → List ℕ = λ q. slice_range s q.0 q.1 in
    let b = length ps - n in
    let made = filled (cut s (drop b ps)) pieces in
    let long : length new ≡ length s + length made = ap length is ∙ length-append s made in
    let same : length (cut s ps) ≡ length ps = length-map ps f in
    let within : n ≤ length (cut s ps) = omega (arith, same, le) in
    let last : cut s (drop b ps) ≡ reverse (take n (reverse (cut s ps))) = last-cut s ps n le in
    let first : reverse (cut s (take b ps)) ≡ drop n (reverse (cut s ps)) =
    ap reverse (sym (take-map f b ps)) ∙ ap (λ m. reverse (take (m - n) (cut s ps))) (sym same)
    ∙ sym (turned-back (cut s ps) n within) in
    ap (λ z. seen z (take b ps ++ (length s, length new) ∷ []) ms) is
    ∙ ap (λ m. seen (s ++ made) (take b ps ++ (length s, m) ∷ []) ms) long
    ∙ seen-push s made (take b ps) ms (within-front (length s) b ps h) k
    ∙ ap (λ l. record { entries = filled l pieces ∷ reverse (cut s (take b ps)); marked = cut s ms }) last
    ∙ ap (λ l. record { entries = filled (reverse (take n (reverse (cut s ps)))) pieces ∷ l; marked = cut s ms }) first

pub reversed-long : (s : List ℕ) (ps : List (ℕ × ℕ)) (es : List (List ℕ)) → reverse (cut s ps) ≡ es → length es ≡ length ps
reversed-long s ps es e =
    ap length (sym e) ∙ length-reverse (cut s ps) ∙ length-map ps (λ q. slice_range s q.0 q.1)

-- the last of a stack of one
pub last-one : (es last : List (List ℕ)) (e : List ℕ) → length es ≡ 1 → last ≡ reverse (take 1 es) → e ≡ get_or last 0 [] → es ≡ e ∷ []
last-one [] last e one is at = cc
last-one (d ∷ []) last e one is at = ap (λ z. z ∷ []) (sym (at ∙ ap (λ l. get_or l 0 []) is))
last-one (d ∷ f ∷ es) last e one is at = absurd (omega arith)
