-- What the loop that makes a mask keeps: it is built from its last flag.
--
--   Gathered flag numbers h mask    the mask has the flags of the numbers from place h on
use mathlib.Core.Path.{◌≡◌, sym, ap, ◌∙◌}
use mathlib.Core.Bool.{Bool}
use mathlib.Core.List.{List, map}
use Prim.Native.Nat.{ℕ, zero, suc, ◌+◌, ◌*◌, ◌-◌, ◌^◌, ◌≤◌, ◌<◌}
use native.Mathlib.Omega.{arith}
use lib.ListN.{length, get_or, drop, length-drop, length-map, drop_of_length-le}
use lib.Pow.{pow_mono}
use lib.Seq.{drop-cons}
use Rattle.job.specs.Job.{most_heads}
use Rattle.mask.specs.Mask.{bit_of, mask_of}
use Rattle.mask.proofs.Laws.{mask_none, mask_more, mask_bound}

pub record Gathered (flag : ℕ → Bool) (numbers : List ℕ) (h mask : ℕ) : Type 0 where
  pub within : h ≤ length numbers
  pub same : mask ≡ mask_of (map flag (drop h numbers))

module _ (flag : ℕ → Bool) (numbers : List ℕ) where
  pub gathered_none : (h : ℕ) → length numbers ≡ h → Gathered flag numbers h 0
  gathered_none h size =
      record {
        within = omega arith;
        same = sym (ap (λ l. mask_of (map flag l)) (drop_of_length-le numbers {i = h} (omega arith)) ∙ mask_none);
      }

  -- before the last of 32 flags the mask has room for one more
  pub gathered_small : (h mask : ℕ) → length numbers ≤ most_heads → 0 < h → Gathered flag numbers h mask → mask < 2 ^ 31
  gathered_small h mask few left before =
      let flags = map flag (drop h numbers) in
      let size : length flags ≤ 31 = omega (arith, length-map (drop h numbers) flag, length-drop h numbers) in
      omega (arith, before.same, mask_bound flags, pow_mono size)

  -- one flag more, below the others
  pub gathered_on : (h mask : ℕ) → 0 < h → Gathered flag numbers h mask
      → Gathered flag numbers (h - 1) (2 * mask + bit_of (flag (get_or numbers (h - 1) 0)))
  gathered_on zero mask positive before = absurd (omega arith)
  gathered_on (suc h) mask positive before =
      let down : suc h - 1 ≡ h = omega arith in
      let next = flag (get_or numbers h 0) in
      rw down
      (record {
        within = omega (arith, before.within);
        same =
            ap (λ m. 2 * m + bit_of next) before.same
            ∙ sym (ap (λ l. mask_of (map flag l)) (drop-cons numbers h 0 (omega (arith, before.within)))
            ∙ mask_more next (map flag (drop (suc h) numbers)));
      })
