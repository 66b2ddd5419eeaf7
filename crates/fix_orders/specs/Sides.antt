-- Side (54) and OrdType (40) by their texts.
use Rattle.std.specs.Prelude.{ℕ, List, codes, if◌then◌else◌, Result, Ok, Err}
use Rattle.std.specs.Str.{bytes_eq}
use Rattle.fix_fields.specs.declared.number.Spelling.{Spelling}
use Rattle.fix_fields.specs.declared.number.Spelling.TheVariants.{Range}
use Rattle.fix_orders.specs.declared.message.OrderKind.{OrderKind}
use Rattle.fix_orders.specs.declared.message.OrderKind.TheVariants.{Market, Limit}
use Rattle.fix_orders.specs.declared.side.Side.{Side}
use Rattle.fix_orders.specs.declared.side.Side.TheVariants.{Buy, Sell, SellShort, SellShortExempt}

-- the side of a text
abbrev pub side_of : List ℕ → Result Side Spelling
side_of text =
    if bytes_eq text (codes "1") then Ok Buy
    else (if bytes_eq text (codes "2") then Ok Sell
    else (if bytes_eq text (codes "5") then Ok SellShort
    else (if bytes_eq text (codes "6") then Ok SellShortExempt else Err Range)))

-- the byte of a side
abbrev pub byte_of : Side → ℕ
byte_of Buy = 49
byte_of Sell = 50
byte_of SellShort = 53
byte_of SellShortExempt = 54

-- the order type of a text
abbrev pub order_kind_of : List ℕ → Result OrderKind Spelling
order_kind_of text =
    if bytes_eq text (codes "1") then Ok Market
    else (if bytes_eq text (codes "2") then Ok Limit else Err Range)
