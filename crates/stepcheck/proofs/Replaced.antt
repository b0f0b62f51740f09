-- Where a substitute stands, and which variables it has.
use Rattle.std.proofs.Common.{◌≡◌, ◌≢◌, ℕ, zero, suc, ◌<◌, ◌≤◌, List, [], ◌∷◌, Option, None, Some, length, drop, get_or}
use Rattle.std.proofs.Common.{◌+◌, ◌++◌, map, true, false, refl, sym, ap, ◌∙◌, ⊎_elim, append-nil, eqb, ltb, arith}
use Rattle.std.specs.List.{AllZip, dedup}
use Rattle.std.specs.List.Sorted.{IsPermutation, IsNonDecreasing, IsPartitionPoint}
use Rattle.std.proofs.lemmas.Bool.Decides.{leb_tells}
use Rattle.std.proofs.lemmas.Bool.{ltb-true, ltb-false}
use Rattle.std.proofs.lemmas.List.{append_assoc, length-append}
use Rattle.std.proofs.lemmas.List.Kept.{Contains-dedup_nat, Contains-from_dedup}
use Rattle.std.proofs.lemmas.List.Sorted.{Contains-permutation, IsPermutation-sym}
use Rattle.mmsyntax.specs.declared.statement.Symbol.{Symbol}
use Rattle.mmsyntax.specs.declared.statement.Symbol.TheVariants.{Var}
use Rattle.mmframes.specs.Substitution.{replacement, subst}
use Rattle.derivation.specs.Derivation.{Expression, substitution}
use Rattle.mmframes.specs.Places.{IsFirstPlace, IsPlaceOf}
use Rattle.mmframes.proofs.Places.{place-of as first-place-of}
use Rattle.derivation.specs.Lookups.{AreVariablesOf}
use Rattle.derivation.specs.Moves.{IsTooLongOrNoMemory}
use Rattle.derivation.specs.declared.fault.ProofFaultKind.{ProofFaultKind}
use Rattle.derivation.specs.declared.fault.ProofFaultKind.TheVariants.{UnknownStep, StackShort, WrongType, HypothesisDiffers, NotDisjoint}
use Rattle.derivation.specs.declared.fault.ProofFaultKind.TheVariants.{NotOneLeft, StatementDiffers, TooLong, NoMemory}
use Rattle.derivation.proofs.Nodes.{subst-drop}

-- where the numbers ascend, the first that isn't below n is where n would be
pub halved-found : (xs : List ℕ) (n i : ℕ) → IsPartitionPoint (λ y. ltb y n ≡ true) (λ y. ltb y n ≡ false) xs i → i < length xs
    → get_or xs i 0 ≡ n → IsFirstPlace xs n (Some i)
halved-found xs n i point lt at =
    (lt, at, λ k lower same. let low = ltb-true (get_or xs k 0) n (point.0 k 0 (omega arith) lower) in omega arith)

pub halved-absent : (xs : List ℕ) (n i : ℕ) → IsNonDecreasing xs → IsPartitionPoint (λ y. ltb y n ≡ true) (λ y. ltb y n ≡ false) xs i
    → (i < length xs → get_or xs i 0 ≢ n) → IsFirstPlace xs n None
halved-absent xs n i up point other = λ k lt same. ⊎_elim
    (λ high. let first = ltb-false (get_or xs i 0) n (point.1 i 0 (omega arith) (omega arith)) in let rise = up i k 0 high.1 lt in
    other (omega arith) (omega arith))
    (λ low. let below = ltb-true (get_or xs k 0) n (point.0 k 0 (omega arith) low.1) in omega arith)
    (leb_tells i k)

-- a substitution is as long as its $f
pub substitution-length : (floats : List ℕ) (es : List Expression) → length floats ≤ length es
    → length (substitution floats es) ≡ length floats
substitution-length [] es le = refl
substitution-length (f ∷ fs) [] le = absurd (omega arith)
substitution-length (f ∷ fs) (e ∷ es) le = ap suc (substitution-length fs es (omega arith))

-- the substitute at a place
pub substitute-at : (floats : List ℕ) (es : List Expression) (i : ℕ) (e : Expression) (d : ℕ × Expression) → i < length floats
    → length floats ≤ length es → (get_or (substitution floats es) i d).1 ≡ drop 1 (get_or es i e)
substitute-at [] es i e d lt le = absurd (omega arith)
substitute-at (f ∷ fs) [] i e d lt le = absurd (omega arith)
substitute-at (f ∷ fs) (x ∷ xs) zero e d lt le = refl
substitute-at (f ∷ fs) (x ∷ xs) (suc i) e d lt le = substitute-at fs xs i e d (omega arith) (omega arith)

-- the variables of a substitution are its $f
substitution-variables : (floats : List ℕ) (es : List Expression) → length floats ≤ length es
    → map (λ (p : ℕ × Expression). p.0) (substitution floats es) ≡ floats
substitution-variables [] es le = refl
substitution-variables (f ∷ fs) [] le = absurd (omega arith)
substitution-variables (f ∷ fs) (e ∷ es) le = ap (λ xs. f ∷ xs) (substitution-variables fs es (omega arith))

-- the first place among the $f is that of the substitute
pub place-of : (floats : List ℕ) (es : List Expression) (v : ℕ) (r : Option ℕ) → length floats ≤ length es → IsFirstPlace floats v r
    → IsPlaceOf (substitution floats es) v r
place-of floats es v r le h = first-place-of (substitution floats es) v r (rw (substitution-variables floats es le) h)

-- the same numbers in order, each once
pub same-variables : (listed sorted left : List ℕ) (e : Expression) → AreVariablesOf listed e → IsPermutation listed sorted
    → left ≡ dedup eqb sorted → AreVariablesOf left e
same-variables listed sorted left e h moved is = λ u. rw is (
  λ there. (h u).0 (Contains-permutation sorted listed u (IsPermutation-sym listed sorted moved) (Contains-from_dedup eqb sorted u there)),
  λ there. Contains-dedup_nat sorted u (Contains-permutation listed sorted u moved ((h u).1 there)),
)

-- what holds of two lists place by place, at a place
pub zip-at : {A B : Type 0} (R : A → B → Type 0) (xs : List A) (ys : List B) (i : ℕ) (d : A) (e : B) → AllZip R xs ys → i < length xs
    → R (get_or xs i d) (get_or ys i e)
zip-at R [] ys i d e h lt = absurd (omega arith)
zip-at R (x ∷ xs) [] i d e h lt = absurd h
zip-at R (x ∷ xs) (y ∷ ys) zero d e h lt = h.0
zip-at R (x ∷ xs) (y ∷ ys) (suc i) d e h lt = zip-at R xs ys i d e h.1 (omega arith)

-- what stands for a variable, in an expression of it alone
pub piece-found : (s : List (ℕ × Expression)) (x : Symbol) (j : ℕ) (e : Expression) → x ≡ Var j → replacement s j ≡ e → e ≡ subst s (x ∷ [])
piece-found s x j e is at = rw is (sym at ∙ sym (append-nil (replacement s j)))

-- what is made of the symbols from a place on: of the one there, then of those behind it
next-piece : (s : List (ℕ × Expression)) (e : Expression) (i : ℕ) (x : Symbol) → i < length e → x ≡ get_or e i x
    → subst s (drop i e) ≡ subst s (x ∷ []) ++ subst s (drop (i + 1) e)
next-piece s e i x lt is =
    subst-drop s e i x lt ∙ ap (λ (y : Symbol). subst s (y ∷ []) ++ subst s (drop (i + 1) e)) (sym is)

-- one more piece is made
pub piece-made : (s : List (ℕ × Expression)) (e made more : Expression) (i : ℕ) (x : Symbol) → i < length e → x ≡ get_or e i x
    → made ++ subst s (drop i e) ≡ subst s e → more ≡ made ++ subst s (x ∷ []) → more ++ subst s (drop (i + 1) e) ≡ subst s e
piece-made s e made more i x lt is so_far grown =
    ap (λ l. l ++ subst s (drop (i + 1) e)) grown ∙ append_assoc made (subst s (x ∷ [])) (subst s (drop (i + 1) e))
    ∙ ap (λ l. made ++ l) (sym (next-piece s e i x lt is)) ∙ so_far

-- where one more piece is too long, the whole is
pub too-long-before : (s : List (ℕ × Expression)) (e made : Expression) (i n : ℕ) (x : Symbol) (kind : ProofFaultKind) → i < length e
    → x ≡ get_or e i x → made ++ subst s (drop i e) ≡ subst s e
    → IsTooLongOrNoMemory kind (n < length made + length (subst s (x ∷ []))) → IsTooLongOrNoMemory kind (n < length (subst s e))
too-long-before s e made i n x TooLong lt is so_far h =
    let whole = sym (length-append made (subst s (drop i e))) ∙ ap length so_far in
    let rest = ap length (next-piece s e i x lt is) ∙ length-append (subst s (x ∷ [])) (subst s (drop (i + 1) e)) in
    omega (arith, whole, rest, h)
too-long-before s e made i n x NoMemory lt is so_far h = tt
too-long-before s e made i n x UnknownStep lt is so_far h = absurd h
too-long-before s e made i n x StackShort lt is so_far h = absurd h
too-long-before s e made i n x WrongType lt is so_far h = absurd h
too-long-before s e made i n x HypothesisDiffers lt is so_far h = absurd h
too-long-before s e made i n x NotDisjoint lt is so_far h = absurd h
too-long-before s e made i n x NotOneLeft lt is so_far h = absurd h
too-long-before s e made i n x StatementDiffers lt is so_far h = absurd h
