mod AskedOrders
