use Rattle.std.proofs.Common.{◌≡◌, ◌<◌, ◌^◌, drop}
use Rattle.std.specs.List.{list_all}
use Rattle.std.specs.Char.{is_digit}
use Rattle.std.specs.Str.Parse.{digits_value, digits_value_after}
use Rattle.sd_replace.proofs.unescaping.number.Given as goal

-- what is left is read on from the number so far, which is as small as its digits are few
abbrev pub invariant-loop-digit : goal.invariant-loop-digit
invariant-loop-digit l = record {
  number_on : digits_value_after l.radix l.number (drop l.digit-index l.digits) ≡ digits_value l.radix l.digits;
  digits_on : list_all (λ d. is_digit d l.radix) (drop l.digit-index l.digits) ≡ list_all (λ d. is_digit d l.radix) l.digits;
  small : l.number < 16 ^ l.digit-index;
}
