-- What is left to show of `proof_of`.
use Rattle.std.proofs.Common.{◌≡◌, ◌∙◌, ◌+◌, ◌-◌, length, map, take, drop, suc, sym, ap, Some, arith, add-one, length-drop}
use Rattle.std.proofs.lemmas.List.{take-map, drop-map, take_all}
use Rattle.mmtext.specs.Views.{seen}
use Rattle.source.specs.Statements.{compressed}
use Rattle.source.specs.Views.{seen_words}
use Rattle.expanding.specs.Asking.{spoken_in}
use Rattle.pasting.specs.Proofs.{proof_of}
use Rattle.pasting.proofs.Spoken.{proof_opened}
use Rattle.pasting.proofs.words.proof_of.Goals as goal

pub returns : goal.returns
returns c =
    let ts = map seen c.args.words.now in
    let end = c.in-Some-closing_in.end in
    let behind = c.in-Some.behind.now in
    let labels : seen_words c.in_ok-labels.labels.items ≡ spoken_in (take end (map seen behind)) =
    c.in_ok-labels.ensures ∙ ap spoken_in (sym (take-map seen end behind)) in
    let letters : seen_words c.in_ok-letters.letters.items ≡ spoken_in (drop (suc end) (map seen behind)) =
    c.in_ok-letters.ensures
    ∙ ap (λ ws. spoken_in (map seen ws))
    (take_all (length behind - (end + 1)) (drop (end + 1) behind) (omega (arith, length-drop (end + 1) behind)))
    ∙ ap (λ n. spoken_in (map seen (drop n behind))) (add-one end)
    ∙ ap spoken_in (sym (drop-map seen (suc end) behind)) in
    let opened : Some (compressed (spoken_in (take end (map seen behind))) (spoken_in (drop (suc end) (map seen behind)))) ≡ proof_of ts =
    proof_opened ts (map seen behind) c.in-Some.ensures (Some end) (sym c.in-Some-closing_in.ensures.value) in
    ap (λ ws. Some (compressed ws (seen_words c.in_ok-letters.letters.items))) labels
    ∙ ap (λ ws. Some (compressed (spoken_in (take end (map seen behind))) ws)) letters
    ∙ opened
