-- The close of a file: its mark, and the balance of the words before it.
--
-- Main law: close_stored, the mark, the sum up to it and the balance make the close.
use Rattle.std.proofs.Common.{◌≡◌, ℕ, ◌+◌, ◌-◌, ◌%◌, ◌^◌, ◌<◌, ◌≤◌, List, ◌++◌, length, take, drop, ap, ◌∙◌, arith, length-append}
use Rattle.std.proofs.Common.{length-take-le, take_at}
use lib.Seq.{sets, sets-eq}
use Rattle.jobfile.specs.Format.{close_mark, close_size, word_bytes, word_sum}
use Rattle.writer.specs.Write.{close_bytes}
use Rattle.writer.proofs.Stores.{stored_on}

-- What the first bytes are once the mark is stored.
marked : (l : List ℕ) (at : ℕ) → at + 2 ≤ length l
    → take (at + 2) (sets l at (word_bytes close_mark)) ≡ take at l ++ word_bytes close_mark
marked l at room =
    let front = take at l ++ word_bytes close_mark in
    let size : length front ≡ at + 2 =
    length-append (take at l) (word_bytes close_mark) ∙ ap (λ n. n + 2) (length-take-le at l (omega arith)) in
    ap (take (at + 2)) (sets-eq (word_bytes close_mark) l at room) ∙ take_at front (drop (at + 2) l) (at + 2) size

-- The difference from zero in 16 bits.
difference : (sum balance : ℕ) → balance < 65536 → (balance + sum % 65536) % 2 ^ 16 ≡ 0 → balance ≡ (65536 - sum % 65536) % 65536
difference sum balance small zero = omega arith

pub close_stored : (l a b : List ℕ) (at sum balance : ℕ) → at + close_size ≤ length l → balance < 65536
    → a ≡ sets l at (word_bytes close_mark) → sum ≡ word_sum (take (at + 2) a) % 65536 → (balance + sum) % 2 ^ 16 ≡ 0
    → b ≡ sets a (at + 2) (word_bytes balance) → b ≡ sets l at (close_bytes (take at l))
close_stored l a b at sum balance room small mark sums zero last =
    let sum_is : sum ≡ word_sum (take at l ++ word_bytes close_mark) % 65536 =
    sums ∙ ap (λ t. word_sum t % 65536) (ap (take (at + 2)) mark ∙ marked l at (omega arith)) in
    let is = difference (word_sum (take at l ++ word_bytes close_mark)) balance small (rw sum_is at zero) in
    stored_on l a b (word_bytes close_mark) (word_bytes balance) at (at + 2) (omega arith) mark last
    ∙ ap (λ w. sets l at (word_bytes close_mark ++ word_bytes w)) is
