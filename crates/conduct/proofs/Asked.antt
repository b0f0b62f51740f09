-- How it is asked of several paths whether one leads to their file.
use Rattle.std.proofs.Common.{◌≡◌, ◌≢◌, ◌∙◌, ◌<◌, ◌≤◌, ◌+◌, ◌++◌, ◌∷◌, [], ℕ, true, false, List, Some, None, Bor, ap, drop, get_or, length, map, refl, subst, sym, take}
use Rattle.std.proofs.lemmas.List.{drop_more, map-append, take-append-drop, take_all, take_more}
use Rattle.conduct.specs.Clashes.{clash_of, clashes_with}
use Rattle.conduct.specs.Comparing.{AreCompared, Clash}
use Rattle.conduct.proofs.Behind.{compared_more}
use Rattle.outside.specs.Events.{Bytes, Event, compares}

-- the paths of words, and what clashes with them
abbrev pub clashes : Bytes → (Bytes → Bytes) → List (Bor (List ℕ)) → List Clash
clashes one line ps = clashes_with one line (map (λ p. p.now) ps)

both : (one : Bytes) (line : Bytes → Bytes) (ps qs : List (Bor (List ℕ)))
    → clashes one line (ps ++ qs) ≡ clashes one line ps ++ clashes one line qs
both one line ps qs =
    ap (map (clash_of one line)) (map-append (λ p. p.now) ps qs)
    ∙ map-append (clash_of one line) (map (λ p. p.now) ps) (map (λ p. p.now) qs)

-- one path more, which leads to another file
pub asked_more : (one : Bytes) (line : Bytes → Bytes) (ps : List (Bor (List ℕ))) (k : ℕ) (d : Bor (List ℕ)) (es : List Event)
    → k < length ps → AreCompared (clashes one line (take k ps)) es None → one ≢ (get_or ps k d).now
    → AreCompared (clashes one line (take (k + 1) ps)) (es ++ compares one (get_or ps k d).now false ∷ []) None
asked_more one line ps k d es within before other =
    let p = get_or ps k d in
    let last = compares one p.now false ∷ [] in
    subst (λ (xs : List Clash). AreCompared xs (es ++ last) None)
    (sym (ap (clashes one line) (take_more ps k d within) ∙ both one line (take k ps) (p ∷ [])))
    (compared_more (clashes one line (take k ps)) (clashes one line (p ∷ [])) es last None before
    (false, [], refl, λ e. absurd (other e), (refl, refl)))

-- one path leads to the file
pub asked_found : (one : Bytes) (line : Bytes → Bytes) (ps : List (Bor (List ℕ))) (k : ℕ) (d : Bor (List ℕ)) (es : List Event)
    → k < length ps → AreCompared (clashes one line (take k ps)) es None
    → AreCompared (clashes one line ps) (es ++ compares one (get_or ps k d).now true ∷ []) (Some (line (get_or ps k d).now))
asked_found one line ps k d es within before =
    let p = get_or ps k d in
    let rest = drop (k + 1) ps in
    let all : ps ≡ take k ps ++ p ∷ rest =
    sym (take-append-drop k ps) ∙ ap (λ (qs : List (Bor (List ℕ))). take k ps ++ qs) (drop_more ps k d within) in
    let last = compares one p.now true ∷ [] in
    subst (λ (xs : List Clash). AreCompared xs (es ++ last) (Some (line p.now)))
    (sym (ap (clashes one line) all ∙ both one line (take k ps) (p ∷ rest)))
    (compared_more (clashes one line (take k ps)) (clashes one line (p ∷ rest)) es last (Some (line p.now)) before
    (true, [], refl, λ e. refl, (refl, refl)))

-- none does
pub asked_all : (one : Bytes) (line : Bytes → Bytes) (ps : List (Bor (List ℕ))) (k : ℕ) (es : List Event) → length ps ≤ k
    → AreCompared (clashes one line (take k ps)) es None → AreCompared (clashes one line ps) es None
asked_all one line ps k es all asked =
    subst (λ (qs : List (Bor (List ℕ))). AreCompared (clashes one line qs) es None) (take_all k ps all) asked
