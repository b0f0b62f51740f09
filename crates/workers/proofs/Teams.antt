-- What threads promise and hand back, one for each session.
use Rattle.std.proofs.Common.{◌≡◌, List, [], ◌∷◌, ◌++◌, length, length-append, map, ap, sym, subst, ◌∙◌, arith}
use Rattle.std.specs.Prelude.{All}
use Rattle.std.specs.List.{AllZip}
use Rattle.std.proofs.Math.Seq.{drop-append_seam}
use Rattle.std.proofs.lemmas.List.{append-nil, append_assoc, map-append, length-map, nil_from_length}
use Rattle.std.proofs.lemmas.List.Elements.{All-drop}
use Rattle.claims.specs.Claims.{Claimant}
use Rattle.library.specs.declared.command.Command.{Command}
use Rattle.transaction.specs.Members.{Member}
use Rattle.workers.specs.declared.shift.Shift.{Shift}
use Rattle.workers.specs.declared.team.ShiftOf.{ShiftOf}
use Rattle.workers.specs.Shifts.{IsShift, AreShifts, ArePromised, IsKept}

-- one more promise, behind the others
pub promised_more : (scripts : List (List (List Command))) (done : List (Member × Claimant)) (ps : List ShiftOf) (m : Member) (c : Claimant)
    (p : ShiftOf) → ArePromised scripts (map (λ d. d.0) done) (map (λ d. d.1) done) ps → p.scripts.now ≡ scripts → p.session.value ≡ m
    → p.claimant.value ≡ c
    → ArePromised scripts (map (λ d. d.0) (done ++ (m, c) ∷ [])) (map (λ d. d.1) (done ++ (m, c) ∷ [])) (ps ++ p ∷ [])
promised_more scripts [] [] m c p were s sm sc = (s, sm, sc, tt)
promised_more scripts [] (q ∷ ps) m c p were s sm sc = absurd were
promised_more scripts (d ∷ done) [] m c p were s sm sc = absurd were
promised_more scripts (d ∷ done) (q ∷ ps) m c p were s sm sc =
    (were.0, were.1, were.2, promised_more scripts done ps m c p were.3 s sm sc)

-- one more shift, behind the others
pub shifts_more : (scripts : List (List (List Command))) (done : List (Member × Claimant)) (ss : List Shift) (m : Member) (c : Claimant)
    (s : Shift)
    → AreShifts scripts (map (λ d. d.0) done) (map (λ d. d.1) done) ss → IsShift scripts m c s.session s.claimant s.rows.items
    → AreShifts scripts (map (λ d. d.0) (done ++ (m, c) ∷ [])) (map (λ d. d.1) (done ++ (m, c) ∷ [])) (ss ++ s ∷ [])
shifts_more scripts [] [] m c s were is = (is, tt)
shifts_more scripts [] (q ∷ ss) m c s were is = absurd were
shifts_more scripts (d ∷ done) [] m c s were is = absurd were
shifts_more scripts (d ∷ done) (q ∷ ss) m c s were is = (were.0, shifts_more scripts done ss m c s were.1 is)

-- where each promise is kept, each thread hands back a shift
pub shifts_kept : (scripts : List (List (List Command))) (ms : List Member) (cs : List Claimant) (ps : List ShiftOf) (ss : List Shift)
    → ArePromised scripts ms cs ps → AllZip IsKept ps ss → AreShifts scripts ms cs ss
shifts_kept scripts [] [] [] [] promised kept = tt
shifts_kept scripts [] [] [] (s ∷ ss) promised kept = absurd kept
shifts_kept scripts [] [] (p ∷ ps) ss promised kept = absurd promised
shifts_kept scripts [] (c ∷ cs) ps ss promised kept = absurd promised
shifts_kept scripts (m ∷ ms) [] ps ss promised kept = absurd promised
shifts_kept scripts (m ∷ ms) (c ∷ cs) [] ss promised kept = absurd promised
shifts_kept scripts (m ∷ ms) (c ∷ cs) (p ∷ ps) [] promised kept = absurd kept
shifts_kept scripts (m ∷ ms) (c ∷ cs) (p ∷ ps) (s ∷ ss) promised kept = (
  subst (λ (x : Claimant). IsShift scripts m x s.session s.claimant s.rows.items) promised.2
      (subst (λ (x : Member). IsShift scripts x p.claimant.value s.session s.claimant s.rows.items) promised.1
      (subst (λ (x : List (List (List Command))). IsShift x p.session.value p.claimant.value s.session s.claimant s.rows.items) promised.0
      kept.0)),
  shifts_kept scripts ms cs ps ss promised.3 kept.1,
)

-- ---- lists that are walked together: each item so far has one of `all`, and `rest` is still to come

-- one more
pub walked_more : {A B : Type 0} (f : A → B) (xs : List A) (x : A) (rest more all : List B) → map f xs ++ rest ≡ all → rest ≡ f x ∷ more
    → map f (xs ++ x ∷ []) ++ more ≡ all
walked_more f xs x rest more all is step =
    ap (λ l. l ++ more) (map-append f xs (x ∷ [])) ∙ append_assoc (map f xs) (f x ∷ []) more ∙ ap (λ l. map f xs ++ l) (sym step) ∙ is

-- none is left where there were as many
pub walked_all : {A B : Type 0} (f : A → B) (xs : List A) (rest all : List B) → map f xs ++ rest ≡ all → length xs ≡ length all
    → map f xs ≡ all
walked_all f xs rest all is long =
    let sum = length-append (map f xs) rest in
    let same = length-map xs f in
    let whole = ap length is in
    let none = nil_from_length rest (omega (arith, sum, same, whole, long)) in
    sym (append-nil (map f xs)) ∙ ap (λ l. map f xs ++ l) (sym none) ∙ is

-- the next one is as all of them are
pub walked_next : {B : Type 0} (P : B → Type 0) (front rest more all : List B) (y : B) → front ++ rest ≡ all → rest ≡ y ∷ more → All P all
    → P y
walked_next P front rest more all y is step each =
    let behind = All-drop P (length front) (front ++ rest) (subst (All P) (sym is) each) in
    subst (All P) (drop-append_seam front rest ∙ step) behind 0 y (omega arith)
