-- Reading more than the longest job file is enough: what lies beyond changes nothing that the program prints.
use mathlib.Core.Path.{◌≡◌, sym, ap, ◌∙◌, subst}
use mathlib.Core.List.{List}
use Prim.Native.Nat.{ℕ, ◌<◌}
use native.Mathlib.Omega.{arith}
use lib.Dec.{ltb}
use lib.ListN.{length, take}
use lib.Seq.{length-take-le, take_all}
use borrow.Author.Tests.{ltb-true, ltb-false, lt-ltb}
use Rattle.basics.proofs.Conditions.{split}
use Rattle.jobfile.specs.Format.{most_bytes, length_refusal}
use Rattle.jobfile.specs.Meaning.{file_refusal, refused, meaning}
use Rattle.player.specs.Player.{play_refusal, played_of}
use Rattle.dock.specs.Dock.{output, Put, PutInput}

-- Length is checked first.
too_long : (file : List ℕ) → most_bytes < length file → meaning file ≡ refused 1
unfolding length_refusal file_refusal meaning
too_long file long = simp (lt-ltb most_bytes (length file) long)

-- A file is played by its meaning alone.
output_meaning : (one other : List ℕ) → meaning one ≡ meaning other → output one ≡ output other
unfolding play_refusal played_of output
output_meaning one other same = rw same

output_cut : (file : List ℕ) (n : ℕ) → most_bytes < n → output (take n file) ≡ output file
output_cut file n beyond =
    split (ltb (length file) n)
    (λ short. ap output (take_all n file (omega (arith, ltb-true (length file) n short))))
    (λ long.
    let enough = ltb-false (length file) n long in
    output_meaning (take n file) file
    (too_long (take n file) (omega (arith, length-take-le n file enough)) ∙ sym (too_long file (omega (arith, enough)))))

-- So the text of what the buffer holds is the input's.
pub put_input : (buffer : List ℕ) (bytes : ℕ) → most_bytes < length buffer
    → {before after : List ℕ} {printed : ℕ} → Put (output (take bytes buffer)) before after printed
    → PutInput buffer bytes before after printed
put_input buffer bytes long {before} {after} {printed} put input holds =
    subst (λ text. Put text before after printed) (ap output holds ∙ output_cut input (length buffer) long) put
