-- the bytes so far are digits, and write the number so far
use Rattle.std.proofs.Common.{◌-◌, ◌≡◌, ◌≤◌, take, length}
use Rattle.std.specs.List.{prefix_len}
use Rattle.std.specs.Char.{is_ascii_digit}
use Rattle.std.specs.Str.Parse.{digits_value}
use Rattle.fix_fields.proofs.field_reader.tag_digits.Given as goal

abbrev pub invariant-loop-count : goal.invariant-loop-count
invariant-loop-count l = record {
  few : l.count ≤ 6;
  inside : l.count ≤ length l.text;
  digits : l.count ≤ prefix_len is_ascii_digit l.text;
  value : l.tag ≡ digits_value 10 (take l.count l.text);
}

abbrev pub decreases-loop-count : goal.decreases-loop-count
decreases-loop-count l = 6 - l.count
