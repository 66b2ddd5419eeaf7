-- Kinds of message by MsgType (35).
use Rattle.std.specs.Prelude.{ℕ, List, [], ◌∷◌, codes, if◌then◌else◌}
use Rattle.std.specs.List.{list_any}
use Rattle.std.specs.Str.{bytes_eq}
use Rattle.fix_orders.specs.declared.kind.Kind.{Kind}
use Rattle.fix_orders.specs.declared.kind.Kind.TheVariants.{NewOrderSingle, OrderCancelRequest}
use Rattle.fix_orders.specs.declared.kind.Kind.TheVariants.{OrderCancelReplaceRequest}
use Rattle.fix_orders.specs.declared.kind.Kind.TheVariants.{ExecutionReport, OrderCancelReject}
use Rattle.fix_orders.specs.declared.kind.Kind.TheVariants.{Admin, Other}

-- the types of the session's own messages
abbrev pub admin_types : List (List ℕ)
admin_types =
    codes "0" ∷ codes "1" ∷ codes "2" ∷ codes "3" ∷ codes "4" ∷ codes "5" ∷ codes "A" ∷ []

-- the kind of a message with this MsgType (35)
abbrev pub kind_of : List ℕ → Kind
kind_of text =
    if bytes_eq text (codes "D") then NewOrderSingle
    else (if bytes_eq text (codes "F") then OrderCancelRequest
    else (if bytes_eq text (codes "G") then OrderCancelReplaceRequest
    else (if bytes_eq text (codes "8") then ExecutionReport
    else (if bytes_eq text (codes "9") then OrderCancelReject
    else (if list_any (bytes_eq text) admin_types then Admin else Other)))))
