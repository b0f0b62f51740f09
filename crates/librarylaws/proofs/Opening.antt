-- The opening library of a database verifies.
use Rattle.std.proofs.Common.{◌≡◌, ℕ, zero, suc, ◌+◌, ◌*◌, ◌<◌, ◌≤◌, List, [], ◌∷◌, length, get_or, take, map, refl, sym, ap, subst}
use Rattle.std.proofs.Common.{◌∙◌, arith}
use Rattle.std.specs.List.{All}
use Rattle.std.proofs.lemmas.List.Elements.{All-nil, All-cons}
use Rattle.std.proofs.lemmas.Option.{slice_get-get_or}
use Rattle.mmsyntax.specs.declared.statement.Assertion.{Assertion}
use Rattle.mmsyntax.specs.Tables.{Contents}
use Rattle.mmsyntax.specs.Assertions.{IsDeclarable}
use Rattle.mmsyntax.proofs.Declarable.{declarable}
use Rattle.derivation.specs.Databases.{AllCheck, frame_in}
use Rattle.derivation.specs.Derivation.{Checks}
use Rattle.library.specs.declared.library.Ranked.{Ranked}
use Rattle.library.specs.Library.{Setting, lower, ranked_from, opening}
use Rattle.library.specs.Laws.{OpeningsVerify}
use Rattle.library.proofs.Lower.{lower_none, lower_first}
use Rattle.library.proofs.Showing.{InRange, ChecksIn, verifies_shown}

-- ---- assertions with their ranks

ranks_fit : (k : ℕ) (xs : List Assertion) → 1 ≤ k → k + length xs ≤ 4097 → All InRange (ranked_from k xs)
ranks_fit k [] some few = All-nil InRange
ranks_fit k (a ∷ xs) some few = All-cons InRange _ _ (omega arith, omega arith) (ranks_fit (k + 1) xs (omega arith) (omega arith))

assertions-ranked_from : (k : ℕ) (xs : List Assertion) → map (λ (e : Ranked). e.assertion) (ranked_from k xs) ≡ xs
assertions-ranked_from k [] = refl
assertions-ranked_from k (a ∷ xs) = ap (λ as'. a ∷ as') (assertions-ranked_from (k + 1) xs)

pub length-ranked_from : (k : ℕ) (xs : List Assertion) → length (ranked_from k xs) ≡ length xs
length-ranked_from k [] = refl
length-ranked_from k (a ∷ xs) = ap (λ n. suc n) (length-ranked_from (k + 1) xs)

get_or-ranked_from : (k : ℕ) (xs : List Assertion) (i : ℕ) (d : Ranked) → i < length xs
    → get_or (ranked_from k xs) i d ≡ record { rank = 100 * (k + i); assertion = get_or xs i d.assertion }
get_or-ranked_from k [] i d lt = absurd (omega arith)
get_or-ranked_from k (a ∷ xs) zero d lt = ap (λ n. record { rank = 100 * n; assertion = a }) (let e : k ≡ k + 0 = omega arith in e)
get_or-ranked_from k (a ∷ xs) (suc i) d lt =
    get_or-ranked_from (k + 1) xs i d (omega arith)
    ∙ ap (λ n. record { rank = 100 * n; assertion = get_or xs i d.assertion }) (let e : k + 1 + i ≡ k + suc i = omega arith in e)

-- ---- those of lower rank

none_lower : (k : ℕ) (xs : List Assertion) (rank : ℕ) → rank ≤ 100 * k → lower (ranked_from k xs) rank ≡ []
none_lower k [] rank le = refl
none_lower k (a ∷ xs) rank le = lower_none _ _ rank le ∙ none_lower (k + 1) xs rank (omega arith)

-- the assertions of lower rank are those that stand earlier
lower-ranked_from : (k : ℕ) (xs : List Assertion) (i : ℕ) → lower (ranked_from k xs) (100 * (k + i)) ≡ take i xs
lower-ranked_from k xs zero = none_lower k xs (100 * (k + 0)) (omega arith)
lower-ranked_from k [] (suc i) = refl
lower-ranked_from k (a ∷ xs) (suc i) =
    lower_first _ (ranked_from (k + 1) xs) (100 * (k + suc i)) (omega arith)
    ∙ ap (λ n. a ∷ lower (ranked_from (k + 1) xs) (100 * n)) (let e : k + suc i ≡ k + 1 + i = omega arith in e)
    ∙ ap (λ ys. a ∷ ys) (lower-ranked_from (k + 1) xs i)

-- ---- the opening

opening_checks : (db : Contents) (s : Setting) → s.prelude ≡ db.prelude → AllCheck db → All (ChecksIn s (opening db)) (opening db)
opening_checks db s prelude all = λ i d i_in.
    let xs = db.assertions in
    let lt : i < length xs = omega (arith, length-ranked_from 1 xs) in
    let a = get_or xs i d.assertion in
    let checks = all i a (slice_get-get_or xs i d.assertion lt) in
    let there = subst (λ ys. Checks (frame_in db.prelude ys) db.prelude a) (sym (lower-ranked_from 1 xs i)) checks in
    subst (λ e. ChecksIn s (opening db) e) (sym (get_or-ranked_from 1 xs i d lt))
    (subst (λ t. Checks (frame_in t (lower (opening db) (100 * (1 + i)))) t a) (sym prelude) there)

-- with as many slots as one likes, if there is room
pub opening_verifies : OpeningsVerify
opening_verifies db slots h all some few room =
    let d = declarable db h in
    let xs = db.assertions in
    let s : Setting = record { prelude = db.prelude; slots = slots } in
    let n = length-ranked_from 1 xs in
    verifies_shown s (opening db) (record { sound = d.prelude; some = some; few = few }) (ranks_fit 1 xs (omega arith) (omega arith))
    (omega arith) (subst (IsDeclarable db.prelude) (sym (assertions-ranked_from 1 xs)) d) (opening_checks db s refl all)
