-- What is left to show of `is_among`.
use Rattle.std.proofs.Common.{◌≡◌, map, ap, sym, ◌∙◌}
use Rattle.std.specs.List.{list_any}
use Rattle.std.specs.Str.{bytes_eq}
use Rattle.source.specs.Views.{seen_words}
use Rattle.sourceframes.specs.Names.{looks_up, words_of, name_in}
use Rattle.sourceframes.proofs.Numbered.{lasts_on, lasts_now, unique_by, injective}
use Rattle.sourceframes.proofs.Sameness.{among_numbers}
use Rattle.sourceframes.proofs.framing.is_among.Goals as goal

pub returns-clause-among : goal.returns-clause-among
returns-clause-among c =
    let end = words_of c.number.new.self in
    let name = name_in end in
    let one = injective end (unique_by (looks_up c.number.new.self.numbers) end c.in_ok-number.ensures.keeps.sound) in
    let n = c.in_ok-number.number in
    let ns = c.args.numbers.now in
    let w = c.args.word.now in
    let ws = seen_words c.args._words.now in
    let known : map name ns ≡ ws =
    lasts_now end (λ name. map name ns ≡ ws)
    (lasts_on (words_of c.args.table.now) end (λ name. map name ns ≡ ws) c.in_ok-number.ensures.keeps.grows c.requires.numbers) in
    let named : name n ≡ w = lasts_now end (λ name. name n ≡ w) c.in_ok-number.ensures.named in
    c.contains.ensures ∙ sym (among_numbers name one ns n) ∙ ap (λ v. list_any (bytes_eq v) (map name ns)) named
    ∙ ap (list_any (bytes_eq w)) known
