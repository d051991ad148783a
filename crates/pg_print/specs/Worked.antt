-- The texts of tables, as a person writes them: of MI and of MSI, stalling and deferring.
use Rattle.std.specs.Prelude.{ℕ, List, [], ◌∷◌, ◌++◌, codes}
use Rattle.std.specs.List.{flat_map}

-- lines as one text
abbrev pub text_of_lines : List (List ℕ) → List ℕ
text_of_lines lines = flat_map (λ line. line ++ codes "\n") lines

abbrev pub mi_stall_text : List ℕ
mi_stall_text = text_of_lines (
    codes "table MI stall" ∷
    codes "state I" ∷
    codes "state M" ∷
    codes "state IM_D" ∷
    codes "state IM_AD" ∷
    codes "state MI_A" ∷
    codes "state II_A" ∷
    codes "on I load send GetS -> IM_D" ∷
    codes "on I store send GetM -> IM_AD" ∷
    codes "on I evict skip -> I" ∷
    codes "on M load hit -> M" ∷
    codes "on M store hit -> M" ∷
    codes "on M evict send PutM -> MI_A" ∷
    codes "on M FwdGet give Data -> I" ∷
    codes "on IM_D FwdGet stall -> IM_D" ∷
    codes "on IM_D Data.all fill done -> M" ∷
    codes "on IM_AD FwdGet stall -> IM_AD" ∷
    codes "on IM_AD Data.all fill done -> M" ∷
    codes "on MI_A FwdGet give Data -> II_A" ∷
    codes "on MI_A PutAck done -> I" ∷
    codes "on II_A PutAck done -> I" ∷
    codes "home I" ∷
    codes "home M" ∷
    codes "at I GetS.other reply Data -> M" ∷
    codes "at I GetM.other reply Data -> M" ∷
    codes "at I evict.none putack -> I" ∷
    codes "at M GetS.other forward FwdGet -> M" ∷
    codes "at M GetM.other forward FwdGet -> M" ∷
    codes "at M evict.owner.last write putack -> I" ∷
    codes "at M evict.none putack -> M" ∷
    codes "end" ∷
    [])

abbrev pub mi_defer_text : List ℕ
mi_defer_text = text_of_lines (
    codes "table MI defer" ∷
    codes "state I" ∷
    codes "state M" ∷
    codes "state IM_D" ∷
    codes "state IM_D_gone" ∷
    codes "state IM_AD" ∷
    codes "state IM_AD_gone" ∷
    codes "state MI_A" ∷
    codes "state II_A" ∷
    codes "on I load send GetS -> IM_D" ∷
    codes "on I store send GetM -> IM_AD" ∷
    codes "on I evict skip -> I" ∷
    codes "on M load hit -> M" ∷
    codes "on M store hit -> M" ∷
    codes "on M evict send PutM -> MI_A" ∷
    codes "on M FwdGet give Data -> I" ∷
    codes "on IM_D FwdGet defer -> IM_D_gone" ∷
    codes "on IM_D Data.all fill done -> M" ∷
    codes "on IM_D_gone Data.all fill done serve -> I" ∷
    codes "on IM_AD FwdGet defer -> IM_AD_gone" ∷
    codes "on IM_AD Data.all fill done -> M" ∷
    codes "on IM_AD_gone Data.all fill done serve -> I" ∷
    codes "on MI_A FwdGet give Data -> II_A" ∷
    codes "on MI_A PutAck done -> I" ∷
    codes "on II_A PutAck done -> I" ∷
    codes "home I" ∷
    codes "home M" ∷
    codes "at I GetS.other reply Data -> M" ∷
    codes "at I GetM.other reply Data -> M" ∷
    codes "at I evict.none putack -> I" ∷
    codes "at M GetS.other forward FwdGet -> M" ∷
    codes "at M GetM.other forward FwdGet -> M" ∷
    codes "at M evict.owner.last write putack -> I" ∷
    codes "at M evict.none putack -> M" ∷
    codes "end" ∷
    [])

abbrev pub msi_stall_text : List ℕ
msi_stall_text = text_of_lines (
    codes "table MSI stall" ∷
    codes "state I" ∷
    codes "state S" ∷
    codes "state M" ∷
    codes "state IS_D" ∷
    codes "state IM_AD" ∷
    codes "state IM_A" ∷
    codes "state SM_AD" ∷
    codes "state SM_A" ∷
    codes "state SI_A" ∷
    codes "state MI_A" ∷
    codes "state II_A" ∷
    codes "on I load send GetS -> IS_D" ∷
    codes "on I store send GetM -> IM_AD" ∷
    codes "on I evict skip -> I" ∷
    codes "on S load hit -> S" ∷
    codes "on S store send GetM -> SM_AD" ∷
    codes "on S evict send PutS -> SI_A" ∷
    codes "on S Inv ack -> I" ∷
    codes "on M load hit -> M" ∷
    codes "on M store hit -> M" ∷
    codes "on M evict send PutM -> MI_A" ∷
    codes "on M FwdGetS give Data wb -> S" ∷
    codes "on M FwdGetM give Data -> I" ∷
    codes "on IS_D Inv stall -> IS_D" ∷
    codes "on IS_D Data.all fill done -> S" ∷
    codes "on IM_AD FwdGetS stall -> IM_AD" ∷
    codes "on IM_AD FwdGetM stall -> IM_AD" ∷
    codes "on IM_AD Data.all fill done -> M" ∷
    codes "on IM_AD Data.part fill need -> IM_A" ∷
    codes "on IM_AD InvAck.more count -> IM_AD" ∷
    codes "on IM_A FwdGetS stall -> IM_A" ∷
    codes "on IM_A FwdGetM stall -> IM_A" ∷
    codes "on IM_A InvAck.more count -> IM_A" ∷
    codes "on IM_A InvAck.last count done -> M" ∷
    codes "on SM_AD Inv ack -> IM_AD" ∷
    codes "on SM_AD FwdGetS stall -> SM_AD" ∷
    codes "on SM_AD FwdGetM stall -> SM_AD" ∷
    codes "on SM_AD Data.all fill done -> M" ∷
    codes "on SM_AD Data.part fill need -> SM_A" ∷
    codes "on SM_AD InvAck.more count -> SM_AD" ∷
    codes "on SM_A FwdGetS stall -> SM_A" ∷
    codes "on SM_A FwdGetM stall -> SM_A" ∷
    codes "on SM_A InvAck.more count -> SM_A" ∷
    codes "on SM_A InvAck.last count done -> M" ∷
    codes "on SI_A Inv ack -> II_A" ∷
    codes "on SI_A PutAck done -> I" ∷
    codes "on MI_A FwdGetS give Data wb -> SI_A" ∷
    codes "on MI_A FwdGetM give Data -> II_A" ∷
    codes "on MI_A PutAck done -> I" ∷
    codes "on II_A PutAck done -> I" ∷
    codes "home I" ∷
    codes "home S" ∷
    codes "home M" ∷
    codes "home S_D" ∷
    codes "at I GetS.other reply Data -> S" ∷
    codes "at I GetM.other reply Data -> M" ∷
    codes "at I evict.none putack -> I" ∷
    codes "at S GetS.other reply Data -> S" ∷
    codes "at S GetM.other inv reply Data -> M" ∷
    codes "at S GetM.sharer inv reply Data -> M" ∷
    codes "at S evict.sharer.last putack -> I" ∷
    codes "at S evict.sharer.more putack -> S" ∷
    codes "at S evict.none putack -> S" ∷
    codes "at M GetS.other forward FwdGetS -> S_D" ∷
    codes "at M GetM.other forward FwdGetM -> M" ∷
    codes "at M evict.owner.last write putack -> I" ∷
    codes "at M evict.none putack -> M" ∷
    codes "at S_D GetS stall -> S_D" ∷
    codes "at S_D GetM stall -> S_D" ∷
    codes "at S_D evict stall -> S_D" ∷
    codes "at S_D WbData write -> S" ∷
    codes "end" ∷
    [])

abbrev pub msi_defer_text : List ℕ
msi_defer_text = text_of_lines (
    codes "table MSI defer" ∷
    codes "state I" ∷
    codes "state S" ∷
    codes "state M" ∷
    codes "state IS_D" ∷
    codes "state IS_D_gone" ∷
    codes "state IM_AD" ∷
    codes "state IM_AD_gave" ∷
    codes "state IM_AD_gone" ∷
    codes "state IM_A" ∷
    codes "state IM_A_gave" ∷
    codes "state IM_A_gone" ∷
    codes "state SM_AD" ∷
    codes "state SM_AD_gave" ∷
    codes "state SM_AD_gone" ∷
    codes "state SM_A" ∷
    codes "state SM_A_gave" ∷
    codes "state SM_A_gone" ∷
    codes "state SI_A" ∷
    codes "state MI_A" ∷
    codes "state II_A" ∷
    codes "on I load send GetS -> IS_D" ∷
    codes "on I store send GetM -> IM_AD" ∷
    codes "on I evict skip -> I" ∷
    codes "on S load hit -> S" ∷
    codes "on S store send GetM -> SM_AD" ∷
    codes "on S evict send PutS -> SI_A" ∷
    codes "on S Inv ack -> I" ∷
    codes "on M load hit -> M" ∷
    codes "on M store hit -> M" ∷
    codes "on M evict send PutM -> MI_A" ∷
    codes "on M FwdGetS give Data wb -> S" ∷
    codes "on M FwdGetM give Data -> I" ∷
    codes "on IS_D Inv ack -> IS_D_gone" ∷
    codes "on IS_D Data.all fill done -> S" ∷
    codes "on IS_D_gone Data.all fill done serve -> I" ∷
    codes "on IM_AD FwdGetS defer -> IM_AD_gave" ∷
    codes "on IM_AD FwdGetM defer -> IM_AD_gone" ∷
    codes "on IM_AD Data.all fill done -> M" ∷
    codes "on IM_AD Data.part fill need -> IM_A" ∷
    codes "on IM_AD InvAck.more count -> IM_AD" ∷
    codes "on IM_AD_gave Data.all fill done serve -> S" ∷
    codes "on IM_AD_gave Data.part fill need -> IM_A_gave" ∷
    codes "on IM_AD_gave InvAck.more count -> IM_AD_gave" ∷
    codes "on IM_AD_gone Data.all fill done serve -> I" ∷
    codes "on IM_AD_gone Data.part fill need -> IM_A_gone" ∷
    codes "on IM_AD_gone InvAck.more count -> IM_AD_gone" ∷
    codes "on IM_A FwdGetS defer -> IM_A_gave" ∷
    codes "on IM_A FwdGetM defer -> IM_A_gone" ∷
    codes "on IM_A InvAck.more count -> IM_A" ∷
    codes "on IM_A InvAck.last count done -> M" ∷
    codes "on IM_A_gave InvAck.more count -> IM_A_gave" ∷
    codes "on IM_A_gave InvAck.last count done serve -> S" ∷
    codes "on IM_A_gone InvAck.more count -> IM_A_gone" ∷
    codes "on IM_A_gone InvAck.last count done serve -> I" ∷
    codes "on SM_AD Inv ack -> IM_AD" ∷
    codes "on SM_AD FwdGetS defer -> SM_AD_gave" ∷
    codes "on SM_AD FwdGetM defer -> SM_AD_gone" ∷
    codes "on SM_AD Data.all fill done -> M" ∷
    codes "on SM_AD Data.part fill need -> SM_A" ∷
    codes "on SM_AD InvAck.more count -> SM_AD" ∷
    codes "on SM_AD_gave Data.all fill done serve -> S" ∷
    codes "on SM_AD_gave Data.part fill need -> SM_A_gave" ∷
    codes "on SM_AD_gave InvAck.more count -> SM_AD_gave" ∷
    codes "on SM_AD_gone Data.all fill done serve -> I" ∷
    codes "on SM_AD_gone Data.part fill need -> SM_A_gone" ∷
    codes "on SM_AD_gone InvAck.more count -> SM_AD_gone" ∷
    codes "on SM_A FwdGetS defer -> SM_A_gave" ∷
    codes "on SM_A FwdGetM defer -> SM_A_gone" ∷
    codes "on SM_A InvAck.more count -> SM_A" ∷
    codes "on SM_A InvAck.last count done -> M" ∷
    codes "on SM_A_gave InvAck.more count -> SM_A_gave" ∷
    codes "on SM_A_gave InvAck.last count done serve -> S" ∷
    codes "on SM_A_gone InvAck.more count -> SM_A_gone" ∷
    codes "on SM_A_gone InvAck.last count done serve -> I" ∷
    codes "on SI_A Inv ack -> II_A" ∷
    codes "on SI_A PutAck done -> I" ∷
    codes "on MI_A FwdGetS give Data wb -> SI_A" ∷
    codes "on MI_A FwdGetM give Data -> II_A" ∷
    codes "on MI_A PutAck done -> I" ∷
    codes "on II_A PutAck done -> I" ∷
    codes "home I" ∷
    codes "home S" ∷
    codes "home M" ∷
    codes "home S_D" ∷
    codes "at I GetS.other reply Data -> S" ∷
    codes "at I GetM.other reply Data -> M" ∷
    codes "at I evict.none putack -> I" ∷
    codes "at S GetS.other reply Data -> S" ∷
    codes "at S GetM.other inv reply Data -> M" ∷
    codes "at S GetM.sharer inv reply Data -> M" ∷
    codes "at S evict.sharer.last putack -> I" ∷
    codes "at S evict.sharer.more putack -> S" ∷
    codes "at S evict.none putack -> S" ∷
    codes "at M GetS.other forward FwdGetS -> S_D" ∷
    codes "at M GetM.other forward FwdGetM -> M" ∷
    codes "at M evict.owner.last write putack -> I" ∷
    codes "at M evict.none putack -> M" ∷
    codes "at S_D GetS stall -> S_D" ∷
    codes "at S_D GetM stall -> S_D" ∷
    codes "at S_D evict stall -> S_D" ∷
    codes "at S_D WbData write -> S" ∷
    codes "end" ∷
    [])
