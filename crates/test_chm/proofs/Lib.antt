mod Returned
