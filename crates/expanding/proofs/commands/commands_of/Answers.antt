-- What is left to show of `commands_of`.
use Rattle.std.proofs.Common.{◌≡◌, ◌∙◌, ◌<◌, ◌≤◌, ◌+◌, ◌++◌, ◌∷◌, [], refl, length, map, take, sym, ap, subst, arith}
use Rattle.std.proofs.lemmas.List.{length-map, length-take-le, map-append}
use Rattle.mmtext.specs.Views.{seen}
use Rattle.expanding.specs.Commands.{AreCommands, command_of}
use Rattle.spreading.specs.Forms.{AreParts}
use Rattle.expanding.specs.Bars.{seen_command, seen_part}
use Rattle.expanding.specs.Views.{seen_scripts}
use Rattle.expanding.proofs.Commanding.{commands_more}
use Rattle.std.proofs.lemmas.Option.{slice_get_read}
use Rattle.mmsyntax.proofs.Items.{take_next}
use Rattle.expanding.proofs.commands.commands_of.Goals as goal

pub loop-script-preserved : goal.loop-script-preserved
loop-script-preserved c =
    let scripts = c.args.scripts.now in
    let k = c.loop-script.script in
    let script = c.index-scripts-script.result in
    let lt : k < length scripts = c.loop-script-test.true in
    let at = slice_get_read scripts (length scripts) k script refl lt c.index-scripts-script.is in
    let front = seen_scripts (take k scripts) in
    let ts = map seen script.items in
    let ps = map seen_part c.in_ok-parts.parts.items in
    let long : k ≡ 0 + length front = (
    let few : k ≤ length scripts = omega arith in
    let e : length front ≡ k = length-map (take k scripts) (λ us. map seen us.items) ∙ length-take-le k scripts few in
    omega arith
    ) in
    let parts : AreParts ts ps = subst (λ ws. AreParts (map seen ws) ps) c.as_slice.ensures.value c.in_ok-parts.ensures in
    let more : seen_scripts (take (k + 1) scripts) ≡ front ++ ts ∷ [] =
    ap seen_scripts (take_next scripts k script at) ∙ map-append (λ us. map seen us.items) (take k scripts) (script ∷ []) in
    let put : map seen_command c.put_parts.new.commands.items ≡ map seen_command c.loop-script.commands.items ++ map (command_of k) ps =
    c.in_ok-put_parts.ensures
    ∙ ap (λ xs. map seen_command c.loop-script.commands.items ++ map (command_of k) (map seen_part xs))
    c.as_slice-in-loop-script.ensures.value in
    subst (λ ss. AreCommands 0 ss (map seen_command c.put_parts.new.commands.items)) (sym more)
    (subst (AreCommands 0 (front ++ ts ∷ [])) (sym put)
    (commands_more front 0 k (map seen_command c.loop-script.commands.items) ts ps long c.loop-script.invariant parts))
