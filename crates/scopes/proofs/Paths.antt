-- Lists that share their fronts, with one more item.
use Rattle.std.proofs.Common.{◌≡◌, ℕ, ◌+◌, ◌<◌, List, [], ◌∷◌, ◌++◌, length, get_or, Option, Some, None, refl, sym, ap, ◌∙◌, arith}
use Rattle.std.proofs.Common.{length-append}
use Rattle.std.proofs.lemmas.List.{get_or_append_left}
use Rattle.std.proofs.Math.Seq.{get_or-append_seam}
use Rattle.scopes.specs.Paths.{list_at, lists_of, path, IsWithin}

lists_of-append : {A : Type 0} (lists : List (List A)) (ps qs : List (Option ℕ × A))
    → lists_of lists (ps ++ qs) ≡ lists_of (lists_of lists ps) qs
lists_of-append lists [] qs = refl
lists_of-append lists (p ∷ ps) qs = lists_of-append (lists ++ (list_at lists p.0 ++ p.1 ∷ []) ∷ []) ps qs

pub length-lists_of : {A : Type 0} (lists : List (List A)) (ps : List (Option ℕ × A))
    → length (lists_of lists ps) ≡ length lists + length ps
length-lists_of lists [] = omega arith
length-lists_of lists (p ∷ ps) =
    let more = lists ++ (list_at lists p.0 ++ p.1 ∷ []) ∷ [] in
    let rest : length (lists_of more ps) ≡ length more + length ps = length-lists_of more ps in
    let one : length more ≡ length lists + 1 = length-append lists ((list_at lists p.0 ++ p.1 ∷ []) ∷ []) in
    omega arith

-- the list of a number stays
pub path_stays : {A : Type 0} (ps : List (Option ℕ × A)) (p : Option ℕ × A) (o : Option ℕ) → IsWithin o (length ps)
    → path (ps ++ p ∷ []) o ≡ path ps o
unfolding path
path_stays ps p None h = refl
path_stays {A} ps p (Some i) h =
    let lists = lists_of {A = A} [] ps in
    let len : length lists ≡ 0 + length ps = length-lists_of [] ps in
    let within : i < length lists = omega arith in
    ap (λ ls. get_or ls i []) (lists_of-append [] ps (p ∷ []))
    ∙ get_or_append_left lists ((list_at lists p.0 ++ p.1 ∷ []) ∷ []) [] i within

-- the list of the last number
pub path_grows : {A : Type 0} (ps : List (Option ℕ × A)) (o : Option ℕ) (x : A)
    → path (ps ++ (o, x) ∷ []) (Some (length ps)) ≡ path ps o ++ x ∷ []
unfolding path
path_grows {A} ps o x =
    let lists = lists_of {A = A} [] ps in
    let len : length lists ≡ length ps = let l : length lists ≡ 0 + length ps = length-lists_of [] ps in omega arith in
    ap (λ ls. get_or ls (length ps) []) (lists_of-append [] ps ((o, x) ∷ []))
    ∙ ap (λ n. get_or (lists ++ (list_at lists o ++ x ∷ []) ∷ []) n []) (sym len)
    ∙ get_or-append_seam lists (list_at lists o ++ x ∷ []) [] []
