-- `fields::has_stray_bit`: from 32 heads on, no mask reaches the power of two.
use Rattle.std.proofs.Common.{◌^◌, ◌≤◌, sym, ◌∙◌, arith, pow_mono, le-ltb}
use Rattle.std.proofs.lemmas.Bool.{lt-leb}
use Rattle.fields.proofs.has_stray_bit.Goals as goal

pub returns-else-heads-lt32 : goal.returns-else-heads-lt32
returns-else-heads-lt32 c =
    let most : 2 ^ 32 ≤ 2 ^ c.args.heads = pow_mono c.if-heads-lt32.false in
    le-ltb c.args.heads 32 c.if-heads-lt32.false ∙ sym (lt-leb (2 ^ c.args.heads) c.args.sight (omega arith))
