-- The text that tells faults: one more line, the first of them and the rest.
use Rattle.std.proofs.Common.{◌≡◌, ◌∙◌, ◌<◌, ◌+◌, ◌-◌, ℕ, zero, suc, min, List, [], ◌∷◌, ◌++◌, length, map, take, drop, get_or, sym, ap, ap₂, arith, append_assoc, length-drop, codes}
use Rattle.std.specs.Prelude.{String, string_bytes}
use Rattle.std.specs.declared.alloc.Global.{Global}
use Rattle.std.specs.List.{flat_map, take-map}
use Rattle.std.specs.Fmt.{decimal}
use Rattle.std.proofs.lemmas.Grind.{flat_map-append}
use Rattle.std.proofs.lemmas.List.{map_push, map_more, take_min, length-map, append-nil}
use Rattle.editscripts.specs.declared.faults.TheConstants.{MOST_TOLD}
use Rattle.checking.specs.Checks.{Bytes}
use Rattle.editscripts.specs.Faults.{rest_lines, line_of_fault, told_lines}
use Rattle.editscripts.specs.Views.{seen_fault, seen_lines}
use Rattle.editscripts.specs.declared.faults.ScriptFault.{ScriptFault as CodeFault}

pub rest_one : (n : ℕ) → 0 < n → (lines : List (String Global)) (line : String Global)
    → string_bytes line ≡ codes "faults of the scripts that are not shown: " ++ decimal n
    → seen_lines (lines ++ line ∷ []) ≡ seen_lines lines ++ rest_lines n
rest_one zero some lines line is = absurd (omega (arith, some))
rest_one (suc n) some lines line is =
    map_push (λ (l : String Global). string_bytes l) lines line ∙ ap (λ (l : Bytes). seen_lines lines ++ l ∷ []) is

abbrev ended : Bytes → Bytes
ended l = 10 ∷ l

pub lines_more : (base text more : Bytes) (lines : List (String Global)) (i : ℕ) (d : String Global) → i < length lines
    → text ≡ base ++ flat_map ended (seen_lines (take i lines)) → more ≡ text ++ 10 ∷ string_bytes (get_or lines i d)
    → more ≡ base ++ flat_map ended (seen_lines (take (i + 1) lines))
lines_more base text more lines i d within so_far next =
    let line = string_bytes (get_or lines i d) in
    let front = seen_lines (take i lines) in
    next
    ∙ (ap (λ (bs : Bytes). bs ++ ended line) so_far
    ∙ (append_assoc base (flat_map ended front) (ended line)
    ∙ ap (λ (bs : Bytes). base ++ bs)
    (ap (λ (bs : Bytes). flat_map ended front ++ bs) (sym (append-nil (ended line)))
    ∙ (sym (flat_map-append ended front (line ∷ []))
    ∙ ap (flat_map ended) (sym (map_more (λ (l : String Global). string_bytes l) lines i d within))))))

pub told_are : (paths texts : List Bytes) (faults : List CodeFault) (n : ℕ) → n ≡ min (length faults) MOST_TOLD
    → (told more : List CodeFault) → told ≡ take n faults → more ≡ drop n faults
    → map (line_of_fault paths texts) (map seen_fault told) ++ rest_lines (length more) ≡ told_lines paths texts (map seen_fault faults)
told_are paths texts faults n is told more front back =
    let F = line_of_fault paths texts in
    let all = map seen_fault faults in
    let least : n ≡ min MOST_TOLD (length faults) = omega arith in
    let first : map seen_fault told ≡ take MOST_TOLD all =
    ap (map seen_fault) (front ∙ (ap (λ k. take k faults) least ∙ take_min MOST_TOLD faults))
    ∙ sym (take-map seen_fault MOST_TOLD faults) in
    let long = length-map faults seen_fault in
    let left = length-drop n faults in
    let rest : length more ≡ length all - MOST_TOLD = ap length back ∙ omega (arith, is, long, left) in
    ap₂ (λ fs k. map F fs ++ rest_lines k) first rest
