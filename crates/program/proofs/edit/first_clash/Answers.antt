use Rattle.std.proofs.Common.{◌++◌, [], ℕ, List, Bor, None, Some, ap, map, option_map, sym, ◌∙◌}
use Rattle.conduct.proofs.Behind.{adds_more, adds_nothing}
use Rattle.program.specs.Endings.{replies_path}
use Rattle.program.proofs.Apart.{by_replies, in_first, in_last, in_second, in_third, none_clash}
use Rattle.program.proofs.EditedThen.{first_and_rest}
use Rattle.program.proofs.edit.first_clash.Goals as goal

pub returns-in-Some : goal.returns-in-Some
returns-in-Some g c =
    let o = c.args.outputs in
    let ps = map (λ (p : Bor (List ℕ)). p.now) c.args.paths.now in
    let named = first_and_rest (λ (p : Bor (List ℕ)). p.now) c.args.paths.now (record { ref_ptr = (0, 0); now = [] }) c.requires in
    let (es, did, found) = rw c.file_of-file.ensures at c.in-Some.ensures in
    (es, did, in_first o ps _ _ es _ named found)

pub returns-in-Some-clash_of : goal.returns-in-Some-clash_of
returns-in-Some-clash_of g c =
    let o = c.args.outputs in
    let ps = map (λ (p : Bor (List ℕ)). p.now) c.args.paths.now in
    let named = first_and_rest (λ (p : Bor (List ℕ)). p.now) c.args.paths.now (record { ref_ptr = (0, 0); now = [] }) c.requires in
    let (es, did, none) = rw c.file_of-file.ensures at c.in_default.ensures in
    let (fs, then, found) = rw c.source_in-source.ensures at c.in-Some-clash_of.ensures in
    (es ++ fs, adds_more did then, in_second o ps _ _ es fs _ named none found)

pub returns-in-Some-clash_of-2 : goal.returns-in-Some-clash_of-2
returns-in-Some-clash_of-2 g c =
    let o = c.args.outputs in
    let ps = map (λ (p : Bor (List ℕ)). p.now) c.args.paths.now in
    let named = first_and_rest (λ (p : Bor (List ℕ)). p.now) c.args.paths.now (record { ref_ptr = (0, 0); now = [] }) c.requires in
    let (es, did, none) = rw c.file_of-file.ensures at c.in_default.ensures in
    let (fs, then, nothing) = rw c.source_in-source.ensures at c.in_default-clash_of.ensures in
    let (hs, last, found) = c.in-Some-clash_of-2.ensures in
    (es ++ (fs ++ hs), adds_more did (adds_more then last), in_third o ps _ _ es fs hs _ named none nothing found)

pub returns-in-Some-file : goal.returns-in-Some-file
returns-in-Some-file g c =
    let o = c.args.outputs in
    let ps = map (λ (p : Bor (List ℕ)). p.now) c.args.paths.now in
    let named = first_and_rest (λ (p : Bor (List ℕ)). p.now) c.args.paths.now (record { ref_ptr = (0, 0); now = [] }) c.requires in
    let (es, did, none) = rw c.file_of-file.ensures at c.in_default.ensures in
    let (fs, then, nothing) = rw c.source_in-source.ensures at c.in_default-clash_of.ensures in
    let (hs, last, neither) = c.in_default-clash_of-2.ensures in
    let (ks, end, told) = c.clash_of-in-Some-file.ensures in
    let file = ap (option_map (λ (p : Bor (List ℕ)). p.now)) (sym c.in-Some-file.is) ∙ c.file_of-file.ensures in (
      es ++ (fs ++ (hs ++ ks)),
      adds_more did (adds_more then (adds_more last end)),
      in_last o ps _ _ (Some c.in-Some-file.path.now) es fs hs ks _ named file none nothing neither told,
    )

pub returns-in-None : goal.returns-in-None
returns-in-None g c =
    let o = c.args.outputs in
    let ps = map (λ (p : Bor (List ℕ)). p.now) c.args.paths.now in
    let named = first_and_rest (λ (p : Bor (List ℕ)). p.now) c.args.paths.now (record { ref_ptr = (0, 0); now = [] }) c.requires in
    let (es, did, none) = rw c.file_of-file.ensures at c.in_default.ensures in
    let (fs, then, nothing) = rw c.source_in-source.ensures at c.in_default-clash_of.ensures in
    let (hs, last, neither) = c.in_default-clash_of-2.ensures in
    let file = ap (option_map (λ (p : Bor (List ℕ)). p.now)) (sym c.in-None.is) ∙ c.file_of-file.ensures in (
      es ++ (fs ++ (hs ++ [])),
      adds_more did (adds_more then (adds_more last (adds_nothing _))),
      in_last o ps _ _ None es fs hs [] None named file none nothing neither (none_clash (replies_path o) by_replies),
    )
